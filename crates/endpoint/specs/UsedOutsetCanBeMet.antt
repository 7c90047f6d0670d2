-- The premises of both halves of demand 3 can be met at an outset that is not fresh (UsedOutset.antt), and both halves in one history. Three datagrams of data are a set
-- there: they fill the gap at the block that is due, carry a block that is held once more, and waive number 41, which never comes. Of three acknowledgements one is an
-- ACK, one a vector, and one names a number that was never sent. All six carry LogWindowSize 5, where the outset remembers 3.
use Rattle.std.specs.Prelude.{ℕ, zero, suc, ◌-◌, Bool, true, cond, ◌||◌, ◌≡◌, eqb, leb, replicate, set}
use Rattle.std.proofs.Math.Bool.{false}
use mathlib.Core.List.Memᴰ
use mathlib.Core.List.{List, [], ◌∷◌, ◌++◌, map}
use Rattle.std.proofs.Common.{inl, inr, ◌∙◌, subst, arith}
use Rattle.std.proofs.Math.Option.{none, some}
use Rattle.std.proofs.Math.Path.{refl, sym, ap, fun_ext}
use Rattle.common.specs.Every.{every}
use Rattle.common.specs.Facts.{clash, or_left}
use Rattle.common.specs.Order.{first}
use Rattle.numbers.specs.Widen.{widen_of}
use Rattle.window.specs.Store.{place_size}
use Rattle.vector.specs.Says.{says_of, bits_of, states_in, states_of, names}
use Rattle.window.specs.Free.{free}
use Rattle.window.specs.Members.{In, among, top}
use Rattle.window.specs.Places.{number_from, spread, tabulate}
use Rattle.window.specs.Window.{slid}
use Rattle.wire.specs.Flags.{outside, six_of}
use Rattle.wire.specs.Frame.{swapped, dropped_by, end_of}
use Rattle.wire.specs.Layout.{ack_end, overhead_end, delay_end, aoa_end, number_end, vector_end, channel_end, values_of, packet_of, part_of}
use Rattle.wire.specs.Read.{read_of, read_packet}
use Rattle.wire.specs.Round.Found.{found}
use Rattle.receiver.specs.declared.Receiver.{Receiver}
use Rattle.receiver.specs.Record.{State, empty, holding, contents}
use Rattle.receiver.specs.Packet.{Packet}
use Rattle.receiver.specs.AnyOrder.{packets_of, items_of, ready_of}
use Rattle.receiver.specs.Receive.{on_some, data_number, channel_number, if_flagged, packet_from}
use Rattle.receiver.specs.Determined.{item_of, inside, marked_in, held_in, seen_by, has_by, length_in, length_by, floor_by, base_by, end_by, due_by, determined_of, block_in, body_by, blocks_from}
use Rattle.receiver.specs.History.{Event, arrives, takes, datagrams_of, takes_of}
use Rattle.receiver.specs.Set.{Set, packet_at, From, Covers}
use Rattle.receiver.specs.Order.Runs.{takes_bring}
use Rattle.receiver.specs.Shown.{Brings, Shown, packet_is, shown_set}
use Rattle.sender.specs.declared.Sender.{Sender}
use Rattle.sender.specs.Record.{pending, received, in_flight, acknowledged, no_number, no_block, remembering}
use Rattle.sender.specs.Turn.{turn_one, turn_up_to, numbers_moved, blocks_moved, turned_of}
use Rattle.sender.specs.Acknowledge.{acknowledging, names_unsent, told_answer, told_names, told_by, read_answer, acknowledge_answer}
use Rattle.sender.specs.Tells.{accepted_names}
use Rattle.sender.specs.Tells as told
use Rattle.sender.specs.Remembering.{Sized}
use Rattle.sender.specs.Run.{any_of, accepted_in, accepted_from, named_in}
use Rattle.endpoint.specs.Receive.{receiver_of, receive_answer}
use Rattle.endpoint.specs.Calls.{Call, receives, acknowledges, calls_of}
use Rattle.endpoint.specs.Calls as calls
use Rattle.endpoint.specs.History.{OnlyData, OnlyAck, Between, nothing, tells, brings, taken, written, call_for, after, handed_by, brought_in}
use Rattle.endpoint.specs.Steps.{data_no_ack, ack_answer}
use Rattle.endpoint.specs.AnyOrderOfData as of_data
use Rattle.endpoint.specs.AnyOrderOfAcknowledgements as of_acks
use Rattle.endpoint.specs.CanBeMet.{Reads, flags_of, size_of, each_of}
use Rattle.endpoint.specs.Brought.{any_in_lem}
use Rattle.endpoint.specs.UsedOutset.{used_receiver, first_place, other_places, number, block, used_sender, used, sender_consistent, used_sound, used_halves}

-- DATA. Number 40 with block 31; number 43 with block 32, as it is held; AckOfAcks 42 and number 46 with block 35.
abbrev pub forty : List ℕ
forty = 0x05 ∷ 0x04 ∷ 0x50 ∷ 0x28 ∷ 0x00 ∷ 0x1f ∷ 0x00 ∷ 0x00 ∷ []

abbrev pub again : List ℕ
again = 0x07 ∷ 0x04 ∷ 0x50 ∷ 0x2b ∷ 0x00 ∷ 0x20 ∷ 0x00 ∷ 0x00 ∷ 0x07 ∷ []

abbrev pub waiving : List ℕ
waiving = 0x23 ∷ 0x14 ∷ 0x50 ∷ 0x2a ∷ 0x00 ∷ 0x2e ∷ 0x00 ∷ 0x00 ∷ 0x00 ∷ 0x09 ∷ 0x09 ∷ 0x09 ∷ []

abbrev pub used_set : List (List ℕ)
used_set = forty ∷ again ∷ waiving ∷ []

-- the receiver's half with its store
abbrev held : State
held = receiver_of used.halves

-- what the three bring
abbrev body : ℕ → List ℕ
body c = cond (eqb c 31) (0x05 ∷ []) (cond (eqb c 32) (0x07 ∷ 0x07 ∷ []) (0x09 ∷ 0x09 ∷ 0x09 ∷ []))

abbrev forty_packet : Packet
forty_packet = record { number = 40; channel = 31; aoa = none; block = body 31 }

abbrev again_packet : Packet
again_packet = record { number = 43; channel = 32; aoa = none; block = body 32 }

abbrev waiving_packet : Packet
waiving_packet = record { number = 46; channel = 35; aoa = some 42; block = body 35 }

abbrev packets : List Packet
packets = forty_packet ∷ again_packet ∷ waiving_packet ∷ []

three_bring : Brings used_receiver forty forty_packet × Brings used_receiver again again_packet × Brings used_receiver waiving waiving_packet
unfolding every read_of read_packet first swapped dropped_by end_of outside six_of ack_end overhead_end delay_end aoa_end number_end vector_end channel_end values_of packet_of part_of
    packet_from on_some data_number channel_number if_flagged widen_of
three_bring = ((refl, refl, refl, refl), (refl, refl, refl, refl), (refl, refl, refl, refl))

some_held : (held_in 32 used_receiver 31 ≡ false) × (body 32 ≡ contents 32 held 32) × (held_in 32 used_receiver 35 ≡ false)
unfolding held_in inside contents first_place
some_held = (refl, refl, refl)

abbrev shown_forty : Shown 32 held body forty
shown_forty =
    record { packet = forty_packet; brings = three_bring.0; fits = omega arith; block = refl; held = λ t. clash (held_in 32 used_receiver 31) t some_held.0 }

abbrev shown_again : Shown 32 held body again
shown_again = record { packet = again_packet; brings = three_bring.1; fits = omega arith; block = refl; held = λ t. some_held.1 }

abbrev shown_waiving : Shown 32 held body waiving
shown_waiving =
    record { packet = waiving_packet; brings = three_bring.2; fits = omega arith; block = refl; held = λ t. clash (held_in 32 used_receiver 35) t some_held.2 }

shown : (d : List ℕ) → In d used_set → Shown 32 held body d
shown = each_of (Shown 32 held body) forty again waiving shown_forty shown_again shown_waiving

-- THE SET.
pub used_are_a_set : Set 32 32 (receiver_of used.halves) used_set
used_are_a_set = shown_set 32 used_set (omega arith) (omega arith) (omega arith) used_sound.receiver shown

packets_are : packets_of held used_set ≡ packets
packets_are =
    ap (λ (p : Packet). p ∷ packet_at used_receiver again ∷ packet_at used_receiver waiving ∷ []) (packet_is shown_forty)
    ∙ ap (λ (p : Packet). forty_packet ∷ p ∷ packet_at used_receiver waiving ∷ []) (packet_is shown_again)
    ∙ ap (λ (p : Packet). forty_packet ∷ again_packet ∷ p ∷ []) (packet_is shown_waiving)

-- The run that is ready has block 31, which comes, and 32 and 33, which are held; nothing brings 34.
abbrev pub three_blocks : List (List ℕ)
three_blocks = (0x05 ∷ []) ∷ (0x07 ∷ 0x07 ∷ []) ∷ (0x08 ∷ []) ∷ []

brought_ready : blocks_from (body_by 32 held packets) 31 (due_by 32 used_receiver (map item_of packets) - 31) ≡ three_blocks
unfolding blocks_from body_by block_in due_by has_by held_in inside free among contents first_place other_places
brought_ready = refl

pub used_ready : ready_of 32 (receiver_of used.halves) used_set ≡ three_blocks
used_ready = ap (λ (ps : List Packet). blocks_from (body_by 32 held ps) 31 (due_by 32 used_receiver (map item_of ps) - 31)) packets_are ∙ brought_ready

-- Base has passed 41, waived, and stands at 45, which neither came nor was waived; 46 is marked, and block 35 is held.
abbrev pub settled_receiver : Receiver
settled_receiver =
    record {
      firstdata = record { 0 = 0 };
      firstchannel = record { 0 = 0 };
      base = record { 0 = 45 };
      end = record { 0 = 47 };
      due = record { 0 = 34 };
      marks = set (replicate 32 0) 14 1;
      holds = set (replicate 32 empty) 3 (holding 3);
    }

brought_settled : determined_of 32 used_receiver (map item_of packets) ≡ settled_receiver
unfolding determined_of base_by floor_by end_by due_by seen_by has_by length_by length_in marked_in held_in inside free among top spread tabulate number_from
brought_settled = refl

pub used_settled : determined_of 32 used_receiver (items_of (receiver_of used.halves) used_set) ≡ settled_receiver
used_settled = ap (λ (ps : List Packet). determined_of 32 used_receiver (map item_of ps)) packets_are ∙ brought_settled

-- ACKNOWLEDGEMENTS. An ACK for 5; a vector from 8 that names 9; an ACK for 10, which was never sent.
abbrev pub five_ack : List ℕ
five_ack = 0x00 ∷ 0x01 ∷ 0x50 ∷ 0x05 ∷ 0x00 ∷ 0x00 ∷ 0x00 ∷ 0x00 ∷ 0x00 ∷ 0x00 ∷ []

abbrev pub nine_vector : List ℕ
nine_vector = 0x00 ∷ 0x08 ∷ 0x50 ∷ 0x08 ∷ 0x00 ∷ 0x01 ∷ 0x02 ∷ 0xc0 ∷ []

abbrev pub never_sent : List ℕ
never_sent = 0x00 ∷ 0x01 ∷ 0x50 ∷ 0x0a ∷ 0x00 ∷ 0x00 ∷ 0x00 ∷ 0x00 ∷ 0x00 ∷ 0x00 ∷ []

abbrev pub used_acks : List (List ℕ)
used_acks = five_ack ∷ nine_vector ∷ never_sent ∷ []

all_read : (Reads forty 4 × Reads again 4 × Reads waiving 20) × (Reads five_ack 1 × Reads nine_vector 8 × Reads never_sent 1)
unfolding read_of read_packet first swapped dropped_by end_of outside six_of ack_end overhead_end delay_end aoa_end number_end vector_end channel_end values_of packet_of part_of
all_read = (((refl, refl), (refl, refl), (refl, refl)), ((refl, refl), (refl, refl), (refl, refl)))

-- all of LogWindowSize 5
all_sized : (((found forty).values.logwindow ≡ 5) × ((found again).values.logwindow ≡ 5) × ((found waiving).values.logwindow ≡ 5))
    × (((found five_ack).values.logwindow ≡ 5) × ((found nine_vector).values.logwindow ≡ 5) × ((found never_sent).values.logwindow ≡ 5))
unfolding read_of read_packet first swapped dropped_by end_of outside six_of ack_end overhead_end delay_end aoa_end number_end vector_end channel_end values_of packet_of part_of
all_sized = ((refl, refl, refl), (refl, refl, refl))

used_sized : (d : List ℕ) → In d used_set → Sized 5 d
used_sized =
    each_of (Sized 5) forty again waiving (size_of forty 5 all_read.0.0.0 all_sized.0.0)
    (size_of again 5 all_read.0.1.0 all_sized.0.1) (size_of waiving 5 all_read.0.2.0 all_sized.0.2)

acks_sized : (d : List ℕ) → In d used_acks → Sized 5 d
acks_sized =
    each_of (Sized 5) five_ack nine_vector never_sent (size_of five_ack 5 all_read.1.0.0 all_sized.1.0)
    (size_of nine_vector 5 all_read.1.1.0 all_sized.1.1) (size_of never_sent 5 all_read.1.2.0 all_sized.1.2)

forty_data : OnlyData forty
forty_data p q = inl (flags_of forty 4 all_read.0.0.0 all_read.0.0.1 p q)

again_data : OnlyData again
again_data p q = inl (flags_of again 4 all_read.0.1.0 all_read.0.1.1 p q)

waiving_data : OnlyData waiving
waiving_data p q = inr (flags_of waiving 20 all_read.0.2.0 all_read.0.2.1 p q)

pub used_carry_data : (d : List ℕ) → In d used_set → OnlyData d
used_carry_data = each_of OnlyData forty again waiving forty_data again_data waiving_data

five_ack_lem : OnlyAck five_ack
five_ack_lem p q = inl (flags_of five_ack 1 all_read.1.0.0 all_read.1.0.1 p q)

nine_ack : OnlyAck nine_vector
nine_ack p q = inr (flags_of nine_vector 8 all_read.1.1.0 all_read.1.1.1 p q)

never_ack : OnlyAck never_sent
never_ack p q = inl (flags_of never_sent 1 all_read.1.2.0 all_read.1.2.1 p q)

-- Two are accepted, and the third is refused by 8.
judged : (read_answer used_sender five_ack (read_of five_ack) ≡ 0) × (read_answer used_sender nine_vector (read_of nine_vector) ≡ 0)
    × (read_answer used_sender never_sent (read_of never_sent) ≡ 8)
unfolding read_of read_packet first swapped dropped_by end_of outside six_of ack_end overhead_end delay_end aoa_end number_end vector_end channel_end values_of packet_of part_of
    read_answer told_answer told_by widen_of names_unsent says_of bits_of states_in states_of
judged = (refl, refl, refl)

answer : (d : List ℕ) (n : ℕ) → read_answer used_sender d (read_of d) ≡ n → acknowledge_answer 32 32 used_sender d ≡ n
unfolding acknowledge_answer
answer d n e = rw sender_consistent e

-- The accepted ones name the numbers up to 5, and 9.
abbrev named : ℕ → Bool
named n = leb n 5 || (names (0x02 ∷ []) 8 n || false)

told_are : (n : ℕ) → (told_names (told.tells used_sender five_ack (read_of five_ack)) n ≡ leb n 5)
    × (told_names (told.tells used_sender nine_vector (read_of nine_vector)) n ≡ names (0x02 ∷ []) 8 n)
unfolding read_of read_packet first swapped dropped_by end_of outside six_of ack_end overhead_end delay_end aoa_end number_end vector_end channel_end values_of packet_of part_of
    told.tells told_names told_by widen_of
told_are n = (refl, refl)

accepted : (d : List ℕ) (a n : ℕ) → acknowledge_answer 32 32 used_sender d ≡ a
    → accepted_names 32 32 used_sender d n ≡ cond (eqb a 0) (told_names (told.tells used_sender d (read_of d)) n) false
unfolding accepted_names
accepted d a n e = rw e refl

named_are : (n : ℕ) → named_in 32 32 used_sender used_acks n ≡ named n
unfolding named_in any_of
named_are n =
    let five : accepted_names 32 32 used_sender five_ack n ≡ leb n 5 = accepted five_ack 0 n (answer five_ack 0 judged.0) ∙ (told_are n).0 in
    let nine : accepted_names 32 32 used_sender nine_vector n ≡ names (0x02 ∷ []) 8 n =
    accepted nine_vector 0 n (answer nine_vector 0 judged.1) ∙ (told_are n).1 in
    let never : accepted_names 32 32 used_sender never_sent n ≡ false = accepted never_sent 8 n (answer never_sent 8 judged.2) in
    rw (five, nine, never) refl

-- Number 5 has turned, so low has passed 6 and 7 too and stands at 8, pending as before; 9 is received. Block 3 has turned, so channel low has passed 4 too.
-- Block 5 is in flight, and 6 acknowledged, with their counts of 2 and 6 sends.
-- The LogWindowSize is theirs.
abbrev pub settled_sender : Sender
settled_sender =
    record {
      firstdata = record { 0 = 0 };
      firstchannel = record { 0 = 0 };
      timeout = 300;
      logwindow = 5;
      low = record { 0 = 8 };
      next = record { 0 = 10 };
      channellow = record { 0 = 5 };
      channelnext = record { 0 = 7 };
      numbers = replicate 8 no_number ++ (number pending 5 400 ∷ number received 6 401 ∷ replicate 22 no_number);
      blocks = replicate 5 no_block ++ (block in_flight 2 3 ∷ block acknowledged 6 4 ∷ replicate 25 no_block);
    }

turned : turned_of 32 acknowledging named used_sender ≡ remembering 3 settled_sender
unfolding turned_of turn_one turn_up_to numbers_moved blocks_moved slid names states_of states_in says_of bits_of
turned = refl

pub used_turned : turned_of 32 acknowledging (named_in 32 32 used_sender used_acks) used_sender ≡ remembering 3 settled_sender
used_turned = ap (λ (chosen : ℕ → Bool). turned_of 32 acknowledging chosen used_sender) (fun_ext named_are) ∙ turned

used_acks_lem : (d : List ℕ) → In d used_acks → OnlyAck d
used_acks_lem = each_of OnlyAck five_ack nine_vector never_sent five_ack_lem nine_ack never_ack

-- THE CONCLUSION. In every history at this outset each acknowledgement gets its answer; and where the acknowledgements are these three, whatever their order and
-- repeats, and whatever stands between that carries LogWindowSize 5, the sender's half settles.
module _ (cs : List Call) (ds : List (List ℕ)) (es : List Event) (b : Between cs ds es) where
  pub used_answered : (receive_answer 32 32 (calls_of 32 32 used cs).halves five_ack ≡ 0) × (receive_answer 32 32 (calls_of 32 32 used cs).halves nine_vector ≡ 0)
      × (receive_answer 32 32 (calls_of 32 32 used cs).halves never_sent ≡ 8)
  used_answered = (alike five_ack 0 five_ack_lem judged.0, alike nine_vector 0 nine_ack judged.1, alike never_sent 8 never_ack judged.2)
    where
      alike : (d : List ℕ) (n : ℕ) → OnlyAck d → read_answer used_sender d (read_of d) ≡ n → receive_answer 32 32 (calls_of 32 32 used cs).halves d ≡ n
      alike d n o e =
          of_acks.answered_alike 32 32 (omega arith) (omega arith) used used_halves cs ds es b d o
          ∙ ack_answer 32 32 used.halves d o used_sound.receiver
          ∙ answer d n e

  pub sender_settles : ((d : List ℕ) → In d (datagrams_of es) → Sized 5 d) → ((d : List ℕ) → In d ds → In d used_acks) → ((d : List ℕ) → In d used_acks → In d ds)
      → (calls_of 32 32 used cs).halves.sender ≡ settled_sender
  unfolding datagrams_of
  sender_settles sized there back =
      of_acks.any_order 32 32 (omega arith) (omega arith) used used_halves cs (map receives used_acks) ds used_acks there back 5 (λ d i. acks_sized d (there d i)) es [] b
      (of_acks.in_turn used_acks used_acks_lem) sized none_between (or_left _ _ five_accepted ∙ sym (or_left _ _ five_accepted))
      ∙ of_acks.end_is 32 32 (omega arith) (omega arith) used used_halves (map receives used_acks) used_acks [] (of_acks.in_turn used_acks used_acks_lem)
      ∙ ap (λ (k : ℕ). remembering k (turned_of 32 acknowledging (named_in 32 32 used_sender used_acks) used_sender))
      (of_acks.window_moves 32 32 (omega arith) (omega arith) used used_halves (map receives used_acks) used_acks [] (of_acks.in_turn used_acks used_acks_lem) 5 acks_sized none_between
      (record {
        datagram = five_ack;
        listed = Memᴰ.head refl;
        packet = found five_ack;
        reads = all_read.1.0.0;
        accepted = ack_answer 32 32 used.halves five_ack five_ack_lem used_sound.receiver ∙ answer five_ack 0 judged.0;
      }))
      ∙ ap (remembering 5) used_turned
    where
      none_between : (d : List ℕ) → In d (datagrams_of []) → Sized 5 d
      none_between d i = clash false (any_in_lem d [] i) refl

      five_accepted : accepted_in 32 32 used_sender ds ≡ true
      five_accepted =
          accepted_from 32 32 used_sender ds
          (record {
            datagram = five_ack;
            listed = back five_ack (Memᴰ.head refl);
            packet = found five_ack;
            reads = all_read.1.0.0;
            accepted = answer five_ack 0 judged.0;
          })

-- One that is refused alone moves nothing: the LogWindowSize stays the outset's.
pub never_heard : (calls_of 32 32 used (receives never_sent ∷ [])).halves.sender.logwindow ≡ 3
unfolding brought_in
never_heard =
    of_acks.window_stays 32 32 (omega arith) (omega arith) used used_halves (receives never_sent ∷ []) (never_sent ∷ []) [] (tells never_sent never_ack nothing)
    (λ k. refused k.datagram k.listed k.accepted) refl
  where
    eight : receive_answer 32 32 used.halves never_sent ≡ 8
    eight = ack_answer 32 32 used.halves never_sent never_ack used_sound.receiver ∙ answer never_sent 8 judged.2

    refused : (d : List ℕ) → In d (never_sent ∷ []) → receive_answer 32 32 used.halves d ≡ 0 → ⊥
    refused d (Memᴰ.head q) a = let z : ◌≡◌ {A = ℕ} 8 0 = sym eight ∙ sym (ap (receive_answer 32 32 used.halves) q) ∙ a in omega arith
    refused d (Memᴰ.tail x5) a = elim x5 [ ]

-- And where the data are the three of the set, whatever their order and repeats, with takes and acknowledgements between, the three blocks are handed over, each once, in
-- order, and the receiver's half settles.
module _ (cs : List Call) (ds : List (List ℕ)) (es : List Event) (b : Between cs ds (es ++ takes_of 32)) (from : From used_set es) (covers : Covers used_set es) where
  pub blocks_handed : handed_by 32 32 used cs ≡ three_blocks
  blocks_handed =
      of_acks.handed_alone 32 32 (omega arith) (omega arith) used used_halves cs ds (es ++ takes_of 32) b
      ∙ (of_data.any_order_taken 32 32 used used_set used_are_a_set sender_consistent used_carry_data es from covers).1
      ∙ used_ready

  pub receiver_settles : (calls_of 32 32 used cs).halves.receiver ≡ settled_receiver
  receiver_settles =
      ap (λ (s : State). s.receiver) (of_acks.receiver_alone 32 32 (omega arith) (omega arith) used used_halves cs ds (es ++ takes_of 32) b)
      ∙ (of_data.any_order_taken 32 32 used used_set used_are_a_set sender_consistent used_carry_data es from covers).2
      ∙ used_settled

-- With no acknowledgement at all the sender's half is as at the outset, but for the LogWindowSize.
pub used_hears : (es : List Event) → From used_set es → Covers used_set es → (after 32 32 used es).halves.sender ≡ remembering 5 used_sender
used_hears es from covers = of_data.sender_is 32 32 used used_set used_are_a_set sender_consistent used_carry_data 5 used_sized es from covers

-- One such history of both: out of order, with repeats, with takes and written acknowledgements between.
abbrev pub used_events : List Event
used_events = takes place_size ∷ arrives waiving ∷ arrives again ∷ arrives forty ∷ takes 1 ∷ arrives waiving ∷ []

abbrev pub used_calls : List Call
used_calls =
    receives never_sent ∷ calls.takes place_size ∷ receives waiving ∷ acknowledges 7 0 1232 ∷ receives nine_vector ∷ receives again ∷ receives forty ∷ calls.takes 1
    ∷ receives five_ack ∷ acknowledges 9 1 8 ∷ receives waiving ∷ receives nine_vector ∷ map call_for (takes_of 32)

takes_last : (k : ℕ) → Between (map call_for (takes_of k)) [] (takes_of k)
unfolding takes_of
takes_last zero = nothing
takes_last (suc k) = taken place_size (takes_last k)

both_between : Between used_calls (never_sent ∷ nine_vector ∷ five_ack ∷ nine_vector ∷ []) (used_events ++ takes_of 32)
both_between =
    tells never_sent never_ack (taken place_size (brings waiving (data_no_ack waiving waiving_data) (written 7 0 1232
    (tells nine_vector nine_ack (brings again (data_no_ack again again_data) (brings forty (data_no_ack forty forty_data) (taken 1
    (tells five_ack five_ack_lem (written 9 1 8 (brings waiving (data_no_ack waiving waiving_data) (tells nine_vector nine_ack (takes_last 32))))))))))))

events_from : From used_set used_events
unfolding datagrams_of
events_from d (Memᴰ.head e) = Memᴰ.tail (Memᴰ.tail (Memᴰ.head e))
events_from d (Memᴰ.tail (Memᴰ.head e)) = Memᴰ.tail (Memᴰ.head e)
events_from d (Memᴰ.tail (Memᴰ.tail (Memᴰ.tail (Memᴰ.tail x16)))) = elim x16 [ ]
events_from d (Memᴰ.tail (Memᴰ.tail (Memᴰ.head e))) = Memᴰ.head e
events_from d (Memᴰ.tail (Memᴰ.tail (Memᴰ.tail (Memᴰ.head e)))) = Memᴰ.tail (Memᴰ.tail (Memᴰ.head e))

events_cover : Covers used_set used_events
unfolding datagrams_of
events_cover d (Memᴰ.tail (Memᴰ.tail (Memᴰ.tail x12))) = elim x12 [ ]
events_cover d (Memᴰ.head e) = Memᴰ.tail (Memᴰ.tail (Memᴰ.head e))
events_cover d (Memᴰ.tail (Memᴰ.head e)) = Memᴰ.tail (Memᴰ.head e)
events_cover d (Memᴰ.tail (Memᴰ.tail (Memᴰ.head e))) = Memᴰ.head e

acks_there : (d : List ℕ) → In d (never_sent ∷ nine_vector ∷ five_ack ∷ nine_vector ∷ []) → In d used_acks
acks_there d (Memᴰ.tail (Memᴰ.tail (Memᴰ.tail (Memᴰ.tail x16)))) = elim x16 [ ]
acks_there d (Memᴰ.head e) = Memᴰ.tail (Memᴰ.tail (Memᴰ.head e))
acks_there d (Memᴰ.tail (Memᴰ.head e)) = Memᴰ.tail (Memᴰ.head e)
acks_there d (Memᴰ.tail (Memᴰ.tail (Memᴰ.head e))) = Memᴰ.head e
acks_there d (Memᴰ.tail (Memᴰ.tail (Memᴰ.tail (Memᴰ.head e)))) = Memᴰ.tail (Memᴰ.head e)

acks_back : (d : List ℕ) → In d used_acks → In d (never_sent ∷ nine_vector ∷ five_ack ∷ nine_vector ∷ [])
acks_back d (Memᴰ.tail (Memᴰ.tail (Memᴰ.tail x12))) = elim x12 [ ]
acks_back d (Memᴰ.head e) = Memᴰ.tail (Memᴰ.tail (Memᴰ.head e))
acks_back d (Memᴰ.tail (Memᴰ.head e)) = Memᴰ.tail (Memᴰ.head e)
acks_back d (Memᴰ.tail (Memᴰ.tail (Memᴰ.head e))) = Memᴰ.head e

pub both_settle : (handed_by 32 32 used used_calls ≡ three_blocks) × ((calls_of 32 32 used used_calls).halves.receiver ≡ settled_receiver)
    × ((calls_of 32 32 used used_calls).halves.sender ≡ settled_sender)
both_settle = (
  blocks_handed used_calls _ used_events both_between events_from events_cover,
  receiver_settles used_calls _ used_events both_between events_from events_cover,
  sender_settles used_calls _ (used_events ++ takes_of 32) both_between
      (λ d i. used_sized d (events_from d (subst (λ (l : List (List ℕ)). In d l) (takes_bring used_events 32) i))) acks_there acks_back,
)
