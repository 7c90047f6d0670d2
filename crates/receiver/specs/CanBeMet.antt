-- The premises of the receiver's theorems can be met: a fresh record is consistent, and three datagrams are a set as demand 3 has it.
use Rattle.std.specs.Prelude.{ℕ, ◌%◌, ◌≤◌, Bool, true, false, cond, List, [], ◌∷◌, ◌≡◌, refl, eqb, replicate}
use mathlib.Core.List.Memᴰ
use Rattle.std.proofs.Math.Option.{none, some}
use Rattle.std.proofs.Common.{sym, ap, subst, arith}
use Rattle.std.proofs.lemmas.List.{length-replicate}
use Rattle.common.specs.Every.{every}
use Rattle.common.specs.Facts.{clash}
use Rattle.common.specs.Order.{first}
use Rattle.numbers.specs.Full.{highest_first}
use Rattle.numbers.specs.Widen.{widen_of}
use Rattle.window.specs.Store.{store_size}
use Rattle.window.specs.Members.{In}
use Rattle.wire.specs.Flags.{outside, six_of}
use Rattle.wire.specs.Frame.{swapped, dropped_by, end_of}
use Rattle.wire.specs.Layout.{ack_end, overhead_end, delay_end, aoa_end, number_end, vector_end, channel_end, values_of, packet_of, part_of}
use Rattle.wire.specs.Read.{read_of, read_packet}
use Rattle.window.specs.Places.{always}
use Rattle.receiver.specs.Record.{State, is_marked, is_held, empty, mark_at, hold_at}
use Rattle.receiver.specs.Fresh.{fresh_of}
use Rattle.receiver.specs.Packet.{Packet}
use Rattle.receiver.specs.Receive.{on_some, data_number, channel_number, if_flagged, packet_from}
use Rattle.receiver.specs.Determined.{inside, held_in}
use Rattle.receiver.specs.Facts.{Facts, facts_sound}
use Rattle.receiver.specs.Set.{Set}
use Rattle.receiver.specs.Shown.{Brings, Shown, shown_set}

pub fresh_facts : (w cap n c : ℕ) → n ≤ highest_first → c ≤ highest_first → Facts w cap (fresh_of cap n c)
fresh_facts w cap n c ln lc =
    record {
      marks_size = length-replicate cap 0;
      holds_size = length-replicate cap empty;
      first_data = ln;
      first_channel = lc;
      base_from = omega arith;
      base_range = omega arith;
      end_from = omega arith;
      end_range = omega arith;
      due_from = omega arith;
      due_range = omega arith;
      base_stands = ap is_marked (always cap (n % w) 0);
      end_near = omega arith;
      end_marked = λ l. absurd (omega arith);
      mark_flag = λ m l u. subst (λ (x : ℕ). x ≤ 1) (sym (always cap (m % w) 0)) (omega arith);
      marks_end = λ m l u t. clash (is_marked (mark_at w (fresh_of cap n c) m)) t (ap is_marked (always cap (m % w) 0));
      held_short = λ x l u t. clash (is_held (hold_at w (fresh_of cap n c) x)) t (ap is_held (always cap (x % w) empty));
      held_range = λ x l u t. clash (is_held (hold_at w (fresh_of cap n c) x)) t (ap is_held (always cap (x % w) empty));
      not_held = λ x l u t. always cap (x % w) empty;
      marks_spare = λ i l. always cap i 0;
      holds_spare = λ i l. always cap i empty;
    }

abbrev pub fresh : State
fresh = record { receiver = fresh_of 32 0 0; store = replicate (store_size 32) 0 }

pub none_held : (c : ℕ) → held_in 32 fresh.receiver c ≡ false
unfolding held_in
none_held c = go (inside 32 0 c)
  where
    go : (b : Bool) → cond b (is_held (hold_at 32 fresh.receiver c)) false ≡ false
    go true = ap is_held (always 32 (c % 32) empty)
    go false = refl

-- Three datagrams: data number 5; AckOfAcks 32 with data number 0; AckOfAcks 0 with data number 31 and a block of one byte.

abbrev pub five : List ℕ
five = 0x00 ∷ 0x04 ∷ 0x50 ∷ 0x05 ∷ 0x00 ∷ 0x00 ∷ 0x00 ∷ 0xc0 ∷ []

abbrev pub waiving : List ℕ
waiving = 0x01 ∷ 0x14 ∷ 0x50 ∷ 0x20 ∷ 0x00 ∷ 0x00 ∷ 0x00 ∷ 0x00 ∷ 0x00 ∷ []

abbrev pub late : List ℕ
late = 0x03 ∷ 0x14 ∷ 0x50 ∷ 0x00 ∷ 0x00 ∷ 0x1f ∷ 0x00 ∷ 0x00 ∷ 0x00 ∷ 0x07 ∷ []

abbrev pub three : List (List ℕ)
three = five ∷ waiving ∷ late ∷ []

-- what they bring
abbrev one : Packet
one = record { number = 5; channel = 0; aoa = none; block = [] }

abbrev two : Packet
two = record { number = 0; channel = 1; aoa = some 32; block = [] }

abbrev last : Packet
last = record { number = 31; channel = 3; aoa = some 0; block = 0x07 ∷ [] }

three_bring : Brings fresh.receiver five one × Brings fresh.receiver waiving two × Brings fresh.receiver late last
unfolding every read_of read_packet first swapped dropped_by end_of outside six_of ack_end overhead_end delay_end aoa_end number_end vector_end channel_end values_of packet_of part_of packet_from on_some data_number channel_number if_flagged widen_of
three_bring = ((refl, refl, refl, refl), (refl, refl, refl, refl), (refl, refl, refl, refl))

-- the block of a channel number
abbrev body : ℕ → List ℕ
body c = cond (eqb c 3) (0x07 ∷ []) []

shown : (d : List ℕ) → In d three → Shown 32 fresh body d
shown d (Memᴰ.head e) =
    subst (Shown 32 fresh body) (sym e)
    (record { packet = one; brings = three_bring.0; fits = omega arith; block = refl; held = λ t. clash (held_in 32 fresh.receiver 0) t (none_held 0) })
shown d (Memᴰ.tail (Memᴰ.head e)) =
    subst (Shown 32 fresh body) (sym e)
    (record { packet = two; brings = three_bring.1; fits = omega arith; block = refl; held = λ t. clash (held_in 32 fresh.receiver 1) t (none_held 1) })
shown d (Memᴰ.tail (Memᴰ.tail (Memᴰ.head e))) =
    subst (Shown 32 fresh body) (sym e)
    (record { packet = last; brings = three_bring.2; fits = omega arith; block = refl; held = λ t. clash (held_in 32 fresh.receiver 3) t (none_held 3) })
shown d (Memᴰ.tail (Memᴰ.tail (Memᴰ.tail i))) = elim i [ ]

pub three_are_a_set : Set 32 32 fresh three
three_are_a_set =
    shown_set 32 three (omega arith) (omega arith) (omega arith)
    (facts_sound 32 32 fresh.receiver _ (fresh_facts 32 32 0 0 (omega arith) (omega arith)) (length-replicate {A = ℕ} (store_size 32) 0)) shown
