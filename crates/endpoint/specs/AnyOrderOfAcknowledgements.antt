-- Demand 3, second half, for the endpoint: "with no send, resend or sweep between, any set of packets carrying an acknowledgement only, in any order, repeats included,
-- is accepted or refused alike, and a pending packet becomes received exactly if an accepted one names it"; and, by document 02's W5, "all carrying the same
-- LogWindowSize", which is asked only of what is said of the field. The outset e is any endpoint whose two halves are as receiving asks. By the calls cs the
-- acknowledgements ds are received, with the events es between, takes and datagrams with no acknowledgement (Between, in History.antt).
use Rattle.std.specs.Prelude.{ℕ, ◌≤◌, ◌<◌, Bool, true, false, cond, ◌||◌, List, [], ◌∷◌, map, ◌≡◌, refl, length, Ok, Some}
use mathlib.Core.List.Memᴰ
use Rattle.std.proofs.Common.{sym, ◌∙◌, ap}
use Rattle.common.specs.Facts.{not_so}
use Rattle.window.specs.Members.{In}
use Rattle.wire.specs.declared.Packet.{Packet}
use Rattle.wire.specs.Read.{read_of}
use Rattle.receiver.specs.Consistent as receiver_tests
use Rattle.receiver.specs.History.{Event, run_of, datagrams_of}
use Rattle.sender.specs.declared.Sender.{Sender}
use Rattle.sender.specs.Consistent as sender_tests
use Rattle.sender.specs.Record.{is_pending, remembering, number_at}
use Rattle.sender.specs.Turn.{turned_of}
use Rattle.sender.specs.Acknowledge.{acknowledging, told_names, told_by}
use Rattle.sender.specs.Remembering.{Sized, consistent_remembering, acknowledge_answers}
use Rattle.sender.specs.Run.{run, Accepted, accepted_in, accepted_at, accepted_from, same_accepted, Named, named_in, has_received}
use Rattle.sender.specs.AnyOrder as alone
use Rattle.endpoint.specs.Receive.{Halves, receiver_of, sound_of, receive_answer}
use Rattle.endpoint.specs.Calls.{Endpoint, Call, receives, calls_of}
use Rattle.endpoint.specs.History.{OnlyAck, NoAck, Between, nothing, tells, after, handed, handed_by, brought_in, heard_in}
use Rattle.endpoint.specs.Steps.{paired, sound_halves, ack_answer, no_ack_answer}
use Rattle.endpoint.specs.Follows.{both, Comes, after_is, handed_is, between_plain, between_acks, between_is, between_field, between_stays, between_hands, run_sound}

-- some datagram of the list reads, is accepted at the outset, and names number n
pub record NamedBy (w cap : ℕ) (e : Halves) (ds : List (List ℕ)) (n : ℕ) : Type 0 where
  pub datagram : List ℕ
  pub listed : In datagram ds
  pub packet : Packet
  pub reads : read_of datagram ≡ Ok (Some packet)
  pub accepted : receive_answer w cap e datagram ≡ 0
  pub names : told_names (told_by e.sender datagram packet) n ≡ true

-- some datagram of the list is a packet of type 0, and accepted at the outset
pub record AcceptedBy (w cap : ℕ) (e : Halves) (ds : List (List ℕ)) : Type 0 where
  pub datagram : List ℕ
  pub listed : In datagram ds
  pub packet : Packet
  pub reads : read_of datagram ≡ Ok (Some packet)
  pub accepted : receive_answer w cap e datagram ≡ 0

-- Acknowledgements received in turn, with nothing between, are such a history.
pub in_turn : (ds : List (List ℕ)) → ((d : List ℕ) → In d ds → OnlyAck d) → Between (map receives ds) ds []
in_turn [] only = nothing
in_turn (d ∷ ds) only = tells d (only d (Memᴰ.head refl)) (in_turn ds (λ x i. only x (Memᴰ.tail i)))

module _ (w cap : ℕ) (lw : 0 < w) (uw : w ≤ cap) (e : Endpoint) (h : sound_of w cap e.halves ≡ true) where
  sender_sound : sender_tests.consistent_of w cap e.halves.sender ≡ true
  sender_sound = (sound_halves w cap e.halves h).0

  receiver_sound : receiver_tests.sound_of w cap e.halves.receiver (length e.halves.store) ≡ true
  receiver_sound = (sound_halves w cap e.halves h).1

  module _ (cs : List Call) (ds : List (List ℕ)) (es : List Event) (b : Between cs ds es) where
    -- The history as its halves'.
    same : Comes e.sent (run w cap e.halves.sender ds) (run_of w cap (receiver_of e.halves) es) (calls_of w cap e cs)
    same = between_is w cap lw uw e.sent b e.halves.sender.logwindow e.halves.sender (receiver_of e.halves) sender_sound receiver_sound

    apart : Comes e.sent e.halves.sender (run_of w cap (receiver_of e.halves) es) (after w cap e es)
    apart = after_is w cap e.sent e.halves.sender sender_sound e.halves.sender.logwindow (receiver_of e.halves) es (between_plain b)

    -- the LogWindowSize that is remembered after the history, and after what stands between alone
    abbrev field : ℕ
    field = (calls_of w cap e cs).halves.sender.logwindow

    abbrev field_apart : ℕ
    field_apart = (after w cap e es).halves.sender.logwindow

    -- "accepted or refused alike": at every moment each acknowledgement gets the answer that it gets at the outset.
    pub answered_alike : (d : List ℕ) → OnlyAck d → receive_answer w cap (calls_of w cap e cs).halves d ≡ receive_answer w cap e.halves d
    answered_alike d o =
        ap (λ (x : Endpoint). receive_answer w cap x.halves d) same
        ∙ ack_answer w cap (paired (remembering field (run w cap e.halves.sender ds)) (run_of w cap (receiver_of e.halves) es)) d o
        (run_sound w cap lw uw (receiver_of e.halves) es receiver_sound)
        ∙ acknowledge_answers field w cap (run w cap e.halves.sender ds) d
        ∙ alone.answered_alike w cap lw uw e.halves.sender sender_sound ds d
        ∙ sym (ack_answer w cap e.halves d o receiver_sound)

    -- The receiver's half sees nothing of the acknowledgements: it and its store are what the events between leave alone, each datagram with no acknowledgement
    -- gets the answer that it gets after these alone, and the same blocks are handed over.
    pub receiver_alone : receiver_of (calls_of w cap e cs).halves ≡ receiver_of (after w cap e es).halves
    receiver_alone = ap (λ (x : Endpoint). receiver_of x.halves) same ∙ sym (ap (λ (x : Endpoint). receiver_of x.halves) apart)

    pub others_alone : (d : List ℕ) → NoAck d → receive_answer w cap (calls_of w cap e cs).halves d ≡ receive_answer w cap (after w cap e es).halves d
    others_alone d o =
        ap (λ (x : Endpoint). receive_answer w cap x.halves d) same
        ∙ no_ack_answer w cap (paired (remembering field (run w cap e.halves.sender ds)) (run_of w cap (receiver_of e.halves) es)) d o
        (consistent_remembering field w cap (run w cap e.halves.sender ds) ∙ alone.end_consistent w cap lw uw e.halves.sender sender_sound ds)
        ∙ sym (no_ack_answer w cap (paired (remembering field_apart e.halves.sender) (run_of w cap (receiver_of e.halves) es)) d o
        (consistent_remembering field_apart w cap e.halves.sender ∙ sender_sound))
        ∙ sym (ap (λ (x : Endpoint). receive_answer w cap x.halves d) apart)

    pub handed_alone : handed_by w cap e cs ≡ handed w cap e es
    handed_alone =
        between_hands w cap lw uw e.sent b e.halves.sender.logwindow e.halves.sender (receiver_of e.halves) sender_sound receiver_sound
        ∙ sym (handed_is w cap e.sent e.halves.sender sender_sound e.halves.sender.logwindow (receiver_of e.halves) es (between_plain b))

    -- The sender's store is as at the outset, and its half is the outset's with all that an accepted datagram names turned to received, and the LogWindowSize that is
    -- remembered.
    pub sent_stays : (calls_of w cap e cs).sent ≡ e.sent
    sent_stays = ap (λ (x : Endpoint). x.sent) same

    pub end_is : (calls_of w cap e cs).halves.sender
        ≡ remembering (calls_of w cap e cs).halves.sender.logwindow (turned_of w acknowledging (named_in w cap e.halves.sender ds) e.halves.sender)
    end_is =
        ap (λ (x : Endpoint). x.halves.sender) same
        ∙ ap (remembering field) (alone.end_is w cap lw uw e.halves.sender sender_sound ds)

    only : (d : List ℕ) → In d ds → OnlyAck d
    only = between_acks b

    -- The LogWindowSize. As one of a sender's half and as one of the endpoint, an acknowledgement is accepted alike.
    accepted_there : Accepted w cap e.halves.sender ds → AcceptedBy w cap e.halves ds
    accepted_there k =
        record {
          datagram = k.datagram;
          listed = k.listed;
          packet = k.packet;
          reads = k.reads;
          accepted = ack_answer w cap e.halves k.datagram (only k.datagram k.listed) receiver_sound ∙ k.accepted;
        }

    accepted_back : AcceptedBy w cap e.halves ds → Accepted w cap e.halves.sender ds
    accepted_back k =
        record {
          datagram = k.datagram;
          listed = k.listed;
          packet = k.packet;
          reads = k.reads;
          accepted = sym (ack_answer w cap e.halves k.datagram (only k.datagram k.listed) receiver_sound) ∙ k.accepted;
        }

    -- Where no packet is accepted it stays, whatever is carried: those that are refused move nothing.
    pub window_stays : (AcceptedBy w cap e.halves ds → ⊥) → brought_in w cap (receiver_of e.halves) es ≡ false
        → (calls_of w cap e cs).halves.sender.logwindow ≡ e.halves.sender.logwindow
    window_stays none quiet =
        between_stays w cap lw uw e.sent b e.halves.sender.logwindow e.halves.sender (receiver_of e.halves) sender_sound receiver_sound
        (not_so (accepted_in w cap e.halves.sender ds) (λ t. none (accepted_there (accepted_at w cap e.halves.sender ds t)))) quiet

    -- "all carrying the same LogWindowSize": it is then remembered exactly if a packet is accepted, one of the acknowledgements or one of what stands between.
    module _ (size : ℕ) (acks : (d : List ℕ) → In d ds → Sized size d) (others : (d : List ℕ) → In d (datagrams_of es) → Sized size d) where
      pub window_is : (calls_of w cap e cs).halves.sender.logwindow ≡ cond (heard_in w cap e.halves ds es) size e.halves.sender.logwindow
      window_is =
          between_field w cap lw uw e.sent b size e.halves.sender.logwindow e.halves.sender (receiver_of e.halves) sender_sound receiver_sound acks others

      pub window_moves : AcceptedBy w cap e.halves ds → (calls_of w cap e cs).halves.sender.logwindow ≡ size
      window_moves k =
          window_is
          ∙ ap (λ (x : Bool). cond (x || brought_in w cap (receiver_of e.halves) es) size e.halves.sender.logwindow)
          (accepted_from w cap e.halves.sender ds (accepted_back k))

    -- A number that is pending at the outset is received at the end exactly if some accepted datagram names it.
    module _ (n : ℕ) (l : e.halves.sender.low.0 ≤ n) (u : n < e.halves.sender.next.0) (p : is_pending (number_at w e.halves.sender n) ≡ true) where
      to_sender : NamedBy w cap e.halves ds n → Named w cap e.halves.sender ds n
      to_sender k =
          record {
            datagram = k.datagram;
            listed = k.listed;
            says = record {
              packet = k.packet;
              reads = k.reads;
              accepted = sym (ack_answer w cap e.halves k.datagram (only k.datagram k.listed) receiver_sound) ∙ k.accepted;
              names = k.names;
            };
          }

      from_sender : Named w cap e.halves.sender ds n → NamedBy w cap e.halves ds n
      from_sender k =
          record {
            datagram = k.datagram;
            listed = k.listed;
            packet = k.says.packet;
            reads = k.says.reads;
            accepted = ack_answer w cap e.halves k.datagram (only k.datagram k.listed) receiver_sound ∙ k.says.accepted;
            names = k.says.names;
          }

      pub received_if : NamedBy w cap e.halves ds n → has_received w (calls_of w cap e cs).halves.sender n ≡ true
      received_if k =
          ap (λ (x : Endpoint). has_received w x.halves.sender n) same
          ∙ alone.received_if w cap lw uw e.halves.sender sender_sound ds n l u p (to_sender k)

      pub received_only_if : has_received w (calls_of w cap e cs).halves.sender n ≡ true → NamedBy w cap e.halves ds n
      received_only_if t =
          from_sender (alone.received_only_if w cap lw uw e.halves.sender sender_sound ds n l u p
          (sym (ap (λ (x : Endpoint). has_received w x.halves.sender n) same) ∙ t))

  -- "in any order, repeats included": two histories whose acknowledgements have the same members leave the same sender's half but for the LogWindowSize, whatever stands
  -- between and whatever is carried.
  module _ (cs ks : List Call) (ds fs : List (List ℕ)) (there : (d : List ℕ) → In d ds → In d fs) (back : (d : List ℕ) → In d fs → In d ds) where
    pub any_order_but : (k : ℕ) (es gs : List Event) → Between cs ds es → Between ks fs gs
        → remembering k (calls_of w cap e cs).halves.sender ≡ remembering k (calls_of w cap e ks).halves.sender
    any_order_but k es gs b c =
        ap (λ (x : Endpoint). remembering k x.halves.sender) (same cs ds es b)
        ∙ alone.any_order_but w cap lw uw e.halves.sender sender_sound k ds fs there back
        ∙ sym (ap (λ (x : Endpoint). remembering k x.halves.sender) (same ks fs gs c))

    -- All carrying the same LogWindowSize, they leave the same sender's half, if a packet is accepted in both or in neither.
    module _ (size : ℕ) (acks : (d : List ℕ) → In d ds → Sized size d) where
      fields : (es gs : List Event) → Between cs ds es → Between ks fs gs → ((d : List ℕ) → In d (datagrams_of es) → Sized size d)
          → ((d : List ℕ) → In d (datagrams_of gs) → Sized size d) → heard_in w cap e.halves ds es ≡ heard_in w cap e.halves ds gs
          → (calls_of w cap e cs).halves.sender.logwindow ≡ (calls_of w cap e ks).halves.sender.logwindow
      fields es gs b k x y h =
          window_is cs ds es b size acks x
          ∙ ap (λ (z : Bool). cond z size e.halves.sender.logwindow) h
          ∙ ap (λ (z : Bool). cond (z || brought_in w cap (receiver_of e.halves) gs) size e.halves.sender.logwindow)
          (same_accepted w cap e.halves.sender ds fs there back)
          ∙ sym (window_is ks fs gs k size (λ d i. acks d (back d i)) y)

      pub any_order : (es gs : List Event) → Between cs ds es → Between ks fs gs → ((d : List ℕ) → In d (datagrams_of es) → Sized size d)
          → ((d : List ℕ) → In d (datagrams_of gs) → Sized size d) → heard_in w cap e.halves ds es ≡ heard_in w cap e.halves ds gs
          → (calls_of w cap e cs).halves.sender ≡ (calls_of w cap e ks).halves.sender
      any_order es gs b k x y h =
          any_order_but (calls_of w cap e cs).halves.sender.logwindow es gs b k
          ∙ ap (λ (j : ℕ). remembering j (calls_of w cap e ks).halves.sender) (fields es gs b k x y h)

      -- With the same events between, they leave the same endpoint.
      pub same_end : (es : List Event) → Between cs ds es → Between ks fs es → ((d : List ℕ) → In d (datagrams_of es) → Sized size d)
          → calls_of w cap e cs ≡ calls_of w cap e ks
      same_end es b k x =
          same cs ds es b
          ∙ ap (λ (s : Sender). both e.sent s (run_of w cap (receiver_of e.halves) es))
          (sym (ap (λ (z : Endpoint). z.halves.sender) (same cs ds es b))
          ∙ any_order es es b k x x refl
          ∙ ap (λ (z : Endpoint). z.halves.sender) (same ks fs es k))
          ∙ sym (same ks fs es k)
