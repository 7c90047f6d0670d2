-- Demand 3, first half, for the endpoint: "take packets of data, with or without AckOfAcks, whose numbers all lie in the receiver's windows at the outset .., where
-- equal channel numbers carry equal contents. Whatever order they come in, with repeats, and blocks taken at any moment between"; and, by document 02's W5, "all
-- carrying the same LogWindowSize". The datagrams ds are such a set (the receiver's Set.antt) at the outset e, whose sender's half is consistent too; after is what a
-- history of datagrams and takes leaves.
use Rattle.std.specs.Prelude.{ℕ, Bool, true, false, cond, List, [], ◌∷◌, ◌++◌, ◌≡◌, refl}
use mathlib.Core.List.Memᴰ
use Rattle.std.proofs.Common.{sym, ◌∙◌, ap, subst}
use Rattle.common.specs.Facts.{clash}
use Rattle.window.specs.Store.{place_size}
use Rattle.window.specs.Members.{In}
use Rattle.receiver.specs.Take.{take_answer}
use Rattle.receiver.specs.Determined.{determined_of}
use Rattle.receiver.specs.History.{Event, run_of, datagrams_of, takes_of}
use Rattle.receiver.specs.Set.{Set, From, Covers}
use Rattle.receiver.specs.AnyOrder.{items_of, ready_of}
use Rattle.receiver.specs.AnyOrder as alone
use Rattle.receiver.specs.Order.Runs.{takes_bring}
use Rattle.sender.specs.declared.Sender.{Sender}
use Rattle.sender.specs.Record.{remembering}
use Rattle.sender.specs.Consistent as sender_tests
use Rattle.sender.specs.Remembering.{Sized, consistent_remembering}
use Rattle.endpoint.specs.Receive.{receiver_of, receive_answer}
use Rattle.endpoint.specs.Calls.{Endpoint}
use Rattle.endpoint.specs.History.{OnlyData, after, handed}
use Rattle.endpoint.specs.Steps.{paired, data_no_ack, no_ack_answer}
use Rattle.endpoint.specs.Follows.{Comes, Plain, after_is, after_field, handed_is}
use Rattle.endpoint.specs.Brought.{is_any, any_in_lem, brought_all}

-- the sender's half once such datagrams have come: as at the outset, and if there was one their LogWindowSize is remembered
abbrev pub remembering_from : ℕ → List (List ℕ) → Sender → Sender
remembering_from size [] s = s
remembering_from size (d ∷ ds) s = remembering size s

module _ (w cap : ℕ) (e : Endpoint) (ds : List (List ℕ)) (set : Set w cap (receiver_of e.halves) ds)
    (s : sender_tests.consistent_of w cap e.halves.sender ≡ true) (only : (d : List ℕ) → In d ds → OnlyData d) where
  plain : (es : List Event) → From ds es → Plain (datagrams_of es)
  plain es from d i = data_no_ack d (only d (from d i))

  -- The history as its receiver's.
  same : (es : List Event) → From ds es → Comes e.sent e.halves.sender (run_of w cap (receiver_of e.halves) es) (after w cap e es)
  same es from = after_is w cap e.sent e.halves.sender s e.halves.sender.logwindow (receiver_of e.halves) es (plain es from)

  -- Every datagram of the set is accepted at every moment of every history of the set.
  pub all_accepted : (es : List Event) → From ds es → (d : List ℕ) → In d ds → receive_answer w cap (after w cap e es).halves d ≡ 0
  all_accepted es from d i =
      ap (λ (x : Endpoint). receive_answer w cap x.halves d) (same es from)
      ∙ no_ack_answer w cap (paired (remembering field e.halves.sender) (run_of w cap (receiver_of e.halves) es)) d (data_no_ack d (only d i))
      (consistent_remembering field w cap e.halves.sender ∙ s)
      ∙ alone.all_accepted w cap (receiver_of e.halves) ds set es from d i
    where
      field : ℕ
      field = (after w cap e es).halves.sender.logwindow

  -- At every moment the sender's half, but for the LogWindowSize, and its store are as at the outset, whatever sizes they carry.
  pub sender_stays : (es : List Event) → From ds es
      → ((after w cap e es).halves.sender ≡ remembering (after w cap e es).halves.sender.logwindow e.halves.sender) × ((after w cap e es).sent ≡ e.sent)
  sender_stays es from = (ap (λ (x : Endpoint). x.halves.sender) (same es from), ap (λ (x : Endpoint). x.sent) (same es from))

  -- And the LogWindowSize, where all carry the same, is theirs once one has come.
  module _ (size : ℕ) (sized : (d : List ℕ) → In d ds → Sized size d) where
    pub sender_hears : (es : List Event) → From ds es → (after w cap e es).halves.sender ≡ remembering_from size (datagrams_of es) e.halves.sender
    sender_hears es from =
        (sender_stays es from).0
        ∙ ap (λ (k : ℕ). remembering k e.halves.sender)
        (after_field w cap e.sent e.halves.sender s size e.halves.sender.logwindow (receiver_of e.halves) es (plain es from) (λ d i. sized d (from d i))
        ∙ ap (λ (b : Bool). cond b size e.halves.sender.logwindow) (brought_all w cap (receiver_of e.halves) ds set es from))
        ∙ told (datagrams_of es)
      where
        told : (fs : List (List ℕ)) → remembering (cond (is_any fs) size e.halves.sender.logwindow) e.halves.sender ≡ remembering_from size fs e.halves.sender
        told [] = refl
        told (f ∷ fs) = refl

    -- Once each has come it is determined by the outset and that size: as at the outset but for the field, if the set is not empty.
    pub sender_is : (es : List Event) → From ds es → Covers ds es → (after w cap e es).halves.sender ≡ remembering_from size ds e.halves.sender
    sender_is es from covers = sender_hears es from ∙ alike (datagrams_of es) ds from covers
      where
        alike : (fs gs : List (List ℕ)) → ((d : List ℕ) → In d fs → In d gs) → ((d : List ℕ) → In d gs → In d fs)
            → remembering_from size fs e.halves.sender ≡ remembering_from size gs e.halves.sender
        alike [] [] there back = refl
        alike [] (g ∷ gs) there back = clash false (any_in_lem g [] (back g (Memᴰ.head refl))) refl
        alike (f ∷ fs) [] there back = clash false (any_in_lem f [] (there f (Memᴰ.head refl))) refl
        alike (f ∷ fs) (g ∷ gs) there back = refl

  -- Once all have come and the last ready block is taken, the blocks handed over in all are the unbroken run from the next one due, each once, in order, and the
  -- receiver's record is the one that the outset and the set's numbers and lengths determine.
  pub any_order : (es : List Event) → From ds es → Covers ds es → (room : ℕ)
      → take_answer w cap (receiver_of (after w cap e es).halves) room ≡ 11
      → (handed w cap e es ≡ ready_of w (receiver_of e.halves) ds)
      × ((after w cap e es).halves.receiver ≡ determined_of w e.halves.receiver (items_of (receiver_of e.halves) ds))
  any_order es from covers room ready =
      let (h, r) = alone.any_order w cap (receiver_of e.halves) ds set es from covers room
      (sym (ap (λ (x : Endpoint). take_answer w cap (receiver_of x.halves) room) (same es from)) ∙ ready) in
      (handed_is w cap e.sent e.halves.sender s e.halves.sender.logwindow (receiver_of e.halves) es (plain es from) ∙ h, ap (λ (x : Endpoint). x.halves.receiver) (same es from) ∙ r)

  -- The same with nothing asked of the end: w takes with room for any block leave nothing ready.
  pub any_order_taken : (es : List Event) → From ds es → Covers ds es
      → (take_answer w cap (receiver_of (after w cap e (es ++ takes_of w)).halves) place_size ≡ 11)
      × (handed w cap e (es ++ takes_of w) ≡ ready_of w (receiver_of e.halves) ds)
      × ((after w cap e (es ++ takes_of w)).halves.receiver ≡ determined_of w e.halves.receiver (items_of (receiver_of e.halves) ds))
  any_order_taken es from covers =
      let f : From ds (es ++ takes_of w) = λ d i. from d (subst (λ (l : List (List ℕ)). In d l) (takes_bring es w) i) in
      let c : Covers ds (es ++ takes_of w) = λ d i. subst (λ (l : List (List ℕ)). In d l) (sym (takes_bring es w)) (covers d i) in
      let ready : take_answer w cap (receiver_of (after w cap e (es ++ takes_of w)).halves) place_size ≡ 11 =
      ap (λ (x : Endpoint). take_answer w cap (receiver_of x.halves) place_size) (same (es ++ takes_of w) f)
      ∙ (alone.any_order_taken w cap (receiver_of e.halves) ds set es from covers).0 in
      let (h, r) = any_order (es ++ takes_of w) f c place_size ready in
      (ready, h, r)
