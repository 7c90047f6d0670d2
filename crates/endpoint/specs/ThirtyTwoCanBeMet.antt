-- The premises of demand 3's first half can be met by 32 datagrams: with and without AckOfAcks, one data number and one block missing, one block carried twice.
-- They are such a set for a fresh endpoint, so every history that covers them hands over blocks 0 to 19 and leaves base at 9, end at 32 and due at 20.
use Rattle.std.specs.Prelude.{ℕ, zero, suc, ◌+◌, ◌-◌, ◌%◌, ◌/◌, ◌<◌, Bool, true, false, cond, List, [], ◌∷◌, ◌++◌, map, ◌⊎◌, ◌≡◌, refl, eqb, length, get_or, replicate, Err, Ok, Some, None}
use mathlib.Core.List.Memᴰ
use Rattle.std.proofs.Common.{inl, inr, sym, ◌∙◌, ap, subst, arith, eqb-true}
use Rattle.std.proofs.Math.Option.{Option, none, some}
use Rattle.common.specs.Every.{every, all_below}
use Rattle.common.specs.EveryLaws.{every_all, all_at}
use Rattle.common.specs.Facts.{clash}
use Rattle.common.specs.Order.{first}
use Rattle.numbers.specs.Widen.{widen_of}
use Rattle.window.specs.Places.{tabulate, length_tabulate, get_d_tabulate}
use Rattle.window.specs.Free.{free}
use Rattle.window.specs.Members.{In, among, top}
use Rattle.wire.specs.declared.Packet.{Packet as WirePacket}
use Rattle.wire.specs.declared.Values.{Values}
use Rattle.wire.specs.Flags.{data_in, outside, six_of, either}
use Rattle.wire.specs.Frame.{swapped, dropped_by, end_of, framed, prefix_for, padded}
use Rattle.wire.specs.Layout.{no_ack, no_delay, no_vector, ack_end, overhead_end, delay_end, aoa_end, number_end, vector_end, channel_end, values_of, packet_of, part_of}
use Rattle.wire.specs.Read.{read_of, read_packet, Reading}
use Rattle.wire.specs.Same.{body_in}
use Rattle.wire.specs.Write.{packet_bytes, datagram_of}
use Rattle.receiver.specs.declared.Receiver.{Receiver}
use Rattle.receiver.specs.Packet.{Packet}
use Rattle.receiver.specs.CanBeMet.{fresh, none_held, three_are_a_set}
use Rattle.receiver.specs.Shown.{small, are_bytes_lem}
use Rattle.receiver.specs.AnyOrder.{packets_of, items_of, ready_of}
use Rattle.receiver.specs.Receive.{on_some, data_number, channel_number, if_flagged, packet_from}
use Rattle.receiver.specs.Determined.{item_of, inside, marked_in, held_in, seen_by, has_by, floor_by, base_by, end_by, due_by, determined_of, block_in, body_by, blocks_from}
use Rattle.receiver.specs.History.{Event, arrives, datagrams_of, takes_of}
use Rattle.receiver.specs.Set.{Readable, AoaFits, Fits, Set, packet_at, From, Covers}
use Rattle.receiver.specs.Order.Again.{packet_at_lem}
use Rattle.sender.specs.Outset.{fresh_consistent}
use Rattle.endpoint.specs.Receive.{receiver_of}
use Rattle.endpoint.specs.History.{OnlyData, after, handed}
use Rattle.endpoint.specs.AnyOrderOfData.{any_order_taken}
use Rattle.endpoint.specs.CanBeMet.{outset}

-- The i-th has data number i and carries block i, but 10 stands for number 9 and 3 for block 20; every fifth has an AckOfAcks too, i / 4.
abbrev pub number_for : ℕ → ℕ
number_for i = cond (eqb i 9) 10 i

abbrev pub channel_for : ℕ → ℕ
channel_for i = cond (eqb i 20) 3 i

abbrev pub waives : ℕ → Bool
waives i = eqb (i % 5) 0

-- block c has c + 1 bytes, each c
abbrev pub block : ℕ → List ℕ
block c = replicate (c + 1) c

abbrev pub values : ℕ → Values
values i =
    record {
      flags = cond (waives i) 0x014 0x004;
      logwindow = 5;
      ack = no_ack;
      overhead = 0;
      delay = no_delay;
      aoa = i / 4;
      number = number_for i;
      vector = no_vector;
      channel = channel_for i;
    }

unfoldable pub datagram : ℕ → List ℕ
datagram i = datagram_of (values i) [] [] (block (channel_for i))

unfoldable pub set32 : List (List ℕ)
set32 = tabulate 32 datagram

pub thirty_two_long : length set32 ≡ 32
unfolding set32
thirty_two_long = length_tabulate 32 datagram

-- Three of them as they come: without and with an AckOfAcks, and the one that carries block 3 once more.
pub as-they-come :
    (datagram 1 ≡ 0x01 ∷ 0x04 ∷ 0x50 ∷ 0x01 ∷ 0x00 ∷ 0x01 ∷ 0x00 ∷ 0x00 ∷ 0x01 ∷ [])
    × (datagram 5 ≡ 0x05 ∷ 0x14 ∷ 0x50 ∷ 0x01 ∷ 0x00 ∷ 0x05 ∷ 0x00 ∷ 0x00 ∷ 0x00 ∷ 0x05 ∷ 0x05 ∷ 0x05 ∷ 0x05 ∷ 0x05 ∷ 0x05 ∷ [])
    × (datagram 20 ≡ 0x03 ∷ 0x14 ∷ 0x50 ∷ 0x05 ∷ 0x00 ∷ 0x14 ∷ 0x00 ∷ 0x00 ∷ 0x00 ∷ 0x03 ∷ 0x03 ∷ 0x03 ∷ 0x03 ∷ [])
unfolding datagram datagram_of packet_bytes framed prefix_for padded swapped
as-they-come = (refl, refl, refl)

-- what the i-th brings
abbrev packet : ℕ → Packet
packet i = record { number = number_for i; channel = channel_for i; aoa = cond (waives i) (some (i / 4)) none; block = block (channel_for i) }

-- Lists by their places.

in_tabulate : {A : Type 0} (n : ℕ) (f : ℕ → A) (i : ℕ) → i < n → In (f i) (tabulate n f)
unfolding tabulate
in_tabulate zero f i l = absurd (omega arith)
in_tabulate (suc n) f zero l = Memᴰ.head refl
in_tabulate (suc n) f (suc i) l = Memᴰ.tail (in_tabulate n (λ j. f (suc j)) i (omega arith))

from_tabulate : {A : Type 0} (n : ℕ) (f : ℕ → A) (a : A) → In a (tabulate n f) → (i : ℕ) × (i < n) × (a ≡ f i)
unfolding tabulate
from_tabulate {A = A} zero f a x' = elim x' [ ]
from_tabulate (suc n) f a (Memᴰ.head e) = (0, omega arith, e)
from_tabulate (suc n) f a (Memᴰ.tail m) = let (i, l, e) = from_tabulate n (λ j. f (suc j)) a m in (suc i, omega arith, e)

map_tabulate : {A B : Type 0} (n : ℕ) (g : A → B) (f : ℕ → A) (h : ℕ → B) → ((i : ℕ) → i < n → g (f i) ≡ h i) → map g (tabulate n f) ≡ tabulate n h
unfolding tabulate
map_tabulate zero g f h same = refl
map_tabulate (suc n) g f h same =
    rw (same 0 (omega arith), map_tabulate n g (λ i. f (suc i)) (λ i. h (suc i)) (λ i l. same (suc i) (omega arith))) refl

-- All 32 are bytes, and read as packets of data alone bring what they should.

-- what a datagram brings that was read as flagged DATA, or AOA and DATA
abbrev brought : List ℕ → Reading → Option Packet
brought d (Err n) = none
brought d (Ok None) = none
brought d (Ok (Some p)) =
    cond (either (eqb p.values.flags 0x004) (eqb p.values.flags 0x014)) (packet_from fresh.receiver p.values (body_in d p)) none

all_bytes : all_below (λ i. every (small (datagram i))) 32 ≡ true
unfolding every all_below datagram datagram_of packet_bytes framed prefix_for padded swapped
all_bytes = refl

all_bring : tabulate 32 (λ i. brought (datagram i) (read_of (datagram i))) ≡ tabulate 32 (λ i. some (packet i))
unfolding tabulate datagram datagram_of packet_bytes framed prefix_for padded read_of read_packet first swapped dropped_by end_of outside six_of ack_end overhead_end
    delay_end aoa_end number_end vector_end channel_end values_of packet_of part_of packet_from on_some data_number channel_number if_flagged widen_of
all_bring = refl

one_brings : (i : ℕ) → i < 32 → brought (datagram i) (read_of (datagram i)) ≡ some (packet i)
one_brings i l =
    sym (get_d_tabulate 32 (λ j. brought (datagram j) (read_of (datagram j))) i none l)
    ∙ ap (λ (ps : List (Option Packet)). get_or ps i none) all_bring
    ∙ get_d_tabulate 32 (λ j. some (packet j)) i none l

record Brings (d : List ℕ) (q : Packet) : Type 0 where
  taken : WirePacket
  reads : read_of d ≡ Ok (Some taken)
  only : (taken.values.flags ≡ 0x004) ⊎ (taken.values.flags ≡ 0x014)
  widens : packet_from fresh.receiver taken.values (body_in d taken) ≡ some q

no_packet_lem : {A : Type 0} (q : Packet) → none ≡ some q → A
no_packet_lem q e = let z : ◌≡◌ {A = ℕ} 0 1 = cc in absurd (omega arith)

brings : (d : List ℕ) (q : Packet) → brought d (read_of d) ≡ some q → Brings d q
brings d q e = go (read_of d) refl e
  where
    flagged : (p : WirePacket) → read_of d ≡ Ok (Some p) → (a b : Bool) → eqb p.values.flags 0x004 ≡ a → eqb p.values.flags 0x014 ≡ b
        → cond (either a b) (packet_from fresh.receiver p.values (body_in d p)) none ≡ some q → Brings d q
    flagged p r true b s t w = record { taken = p; reads = r; only = inl (eqb-true p.values.flags 0x004 s); widens = w }
    flagged p r false true s t w = record { taken = p; reads = r; only = inr (eqb-true p.values.flags 0x014 t); widens = w }
    flagged p r false false s t w = no_packet_lem q w

    go : (x : Reading) → read_of d ≡ x → brought d x ≡ some q → Brings d q
    go (Err n) r w = no_packet_lem q w
    go (Ok None) r w = no_packet_lem q w
    go (Ok (Some p)) r w = flagged p r _ _ refl refl w

carries_data : (flags : ℕ) → (flags ≡ 0x004) ⊎ (flags ≡ 0x014) → data_in flags ≡ true
carries_data flags (inl e) = ap data_in e
carries_data flags (inr e) = ap data_in e

-- One of them.

readable : (i : ℕ) → i < 32 → Readable fresh.receiver (datagram i)
readable i l =
    let k = brings (datagram i) (packet i) (one_brings i l) in
    record {
      bytes = are_bytes_lem (datagram i) (every_all (small (datagram i)) (all_at (λ j. every (small (datagram j))) 32 all_bytes i l));
      taken = k.taken;
      reads = k.reads;
      carries = carries_data k.taken.values.flags k.only;
      packet = packet i;
      widens = k.widens;
    }

packet_is : (i : ℕ) → i < 32 → packet_at fresh.receiver (datagram i) ≡ packet i
unfolding readable
packet_is i l = packet_at_lem fresh.receiver (datagram i) (readable i l)

below : (t : Bool) (a i : ℕ) → a < 32 → i < 32 → cond t a i < 32
below true a i m l = m
below false a i m l = l

aoa_fits_lem : (t : Bool) (i : ℕ) → i < 32 → AoaFits 32 fresh.receiver (cond t (some (i / 4)) none)
aoa_fits_lem true i l = omega arith
aoa_fits_lem false i l = tt

fits : (i : ℕ) → i < 32 → Fits 32 fresh.receiver (packet i)
fits i l =
    let n = below (eqb i 9) 10 i (omega arith) l in
    let c = below (eqb i 20) 3 i (omega arith) l in
    record {
      number_low = omega arith;
      number_high = omega arith;
      number_range = omega arith;
      channel_low = omega arith;
      channel_high = omega arith;
      channel_range = omega arith;
      aoa_fits = aoa_fits_lem (waives i) i l;
    }

listed : (d : List ℕ) → In d set32 → (i : ℕ) × (i < 32) × (d ≡ datagram i)
unfolding set32
listed d m = from_tabulate 32 datagram d m

at_listed : (P : List ℕ → Type 0) → ((i : ℕ) → i < 32 → P (datagram i)) → (d : List ℕ) → In d set32 → P d
at_listed P each d m = let (i, l, e) = listed d m in subst P (sym e) (each i l)

pub thirty_two_carry_data : (d : List ℕ) → In d set32 → OnlyData d
thirty_two_carry_data = at_listed OnlyData λ i l p r.
    let k = brings (datagram i) (packet i) (one_brings i l) in
    let same : k.taken ≡ p = cc in
    subst (λ (x : WirePacket). (x.values.flags ≡ 0x004) ⊎ (x.values.flags ≡ 0x014)) same k.only

block_is : (d : List ℕ) → In d set32 → (packet_at fresh.receiver d).block ≡ block (packet_at fresh.receiver d).channel
block_is =
    at_listed (λ d. (packet_at fresh.receiver d).block ≡ block (packet_at fresh.receiver d).channel) λ i l.
    subst (λ (p : Packet). p.block ≡ block p.channel) (sym (packet_is i l)) refl

-- THE SET.
pub thirty_two_are_a_set : Set 32 32 (receiver_of outset.halves) set32
thirty_two_are_a_set =
    record {
      some = omega arith;
      small = omega arith;
      fits = omega arith;
      outset = three_are_a_set.outset;
      readable = at_listed (Readable fresh.receiver) readable;
      bounds = at_listed (λ d. Fits 32 fresh.receiver (packet_at fresh.receiver d))
          λ i l. subst (λ (p : Packet). Fits 32 fresh.receiver p) (sym (packet_is i l)) (fits i l);
      agree = λ d e m n q. block_is d m ∙ ap block q ∙ sym (block_is e n);
      with_held = λ d m t.
          clash (held_in 32 fresh.receiver (packet_at fresh.receiver d).channel) t (none_held (packet_at fresh.receiver d).channel);
    }

packets_are : packets_of fresh set32 ≡ tabulate 32 packet
unfolding set32
packets_are = map_tabulate 32 (packet_at fresh.receiver) datagram packet packet_is

-- What they bring tells what is handed over and what is left: the run that is ready ends before block 20, and base stands at number 9.

brought_ready : blocks_from (body_by 32 fresh (tabulate 32 packet)) 0 (due_by 32 fresh.receiver (map item_of (tabulate 32 packet)) - 0) ≡ tabulate 20 block
unfolding tabulate blocks_from body_by block_in due_by has_by held_in inside free among
brought_ready = refl

pub twenty_ready : ready_of 32 (receiver_of outset.halves) set32 ≡ tabulate 20 block
twenty_ready =
    ap (λ (ps : List Packet). blocks_from (body_by 32 fresh ps) 0 (due_by 32 fresh.receiver (map item_of ps) - 0)) packets_are ∙ brought_ready

-- a record that has come to base 9, end 32 and due 20
abbrev pub Settled : Receiver → Type 0
Settled r = (r.base.0 ≡ 9) × (r.end.0 ≡ 32) × (r.due.0 ≡ 20)

brought_settled : Settled (determined_of 32 fresh.receiver (map item_of (tabulate 32 packet)))
unfolding tabulate determined_of base_by floor_by end_by due_by seen_by has_by marked_in held_in inside free among top
brought_settled = (refl, refl, refl)

determined_settled : Settled (determined_of 32 fresh.receiver (items_of fresh set32))
determined_settled = subst (λ (ps : List Packet). Settled (determined_of 32 fresh.receiver (map item_of ps))) (sym packets_are) brought_settled

-- THE CONCLUSION. Whatever the order, with repeats and takes between, blocks 0 to 19 are handed over, each once, in order, and the record settles.
module _ (es : List Event) (from : From set32 es) (covers : Covers set32 es) where
  pub twenty_handed : handed 32 32 outset (es ++ takes_of 32) ≡ tabulate 20 block
  twenty_handed = (any_order_taken 32 32 outset set32 thirty_two_are_a_set fresh_consistent thirty_two_carry_data es from covers).1 ∙ twenty_ready

  pub thirty_two_settle : Settled (after 32 32 outset (es ++ takes_of 32)).halves.receiver
  thirty_two_settle =
      subst Settled (sym (any_order_taken 32 32 outset set32 thirty_two_are_a_set fresh_consistent thirty_two_carry_data es from covers).2) determined_settled

-- One such history: the last of the 32 comes first.
unfoldable pub backwards : List (List ℕ)
backwards = tabulate 32 (λ i. datagram (31 - i))

all_arrive : (ds : List (List ℕ)) → datagrams_of (map arrives ds) ≡ ds
unfolding datagrams_of
all_arrive [] = refl
all_arrive (d ∷ ds) = ap (λ (l : List (List ℕ)). d ∷ l) (all_arrive ds)

backwards_from : From set32 (map arrives backwards)
unfolding set32 backwards
backwards_from d m =
    let (i, l, e) = from_tabulate 32 (λ i. datagram (31 - i)) d (subst (In d) (all_arrive backwards) m) in
    subst (λ (x : List ℕ). In x set32) (sym e) (in_tabulate 32 datagram (31 - i) (omega arith))

backwards_covers : Covers set32 (map arrives backwards)
unfolding set32 backwards
backwards_covers d m =
    let (i, l, e) = listed d m in
    let again : i ≡ 31 - (31 - i) = omega arith in
    subst (In d) (sym (all_arrive backwards))
    (subst (λ (x : List ℕ). In x backwards) (sym (e ∙ ap datagram again)) (in_tabulate 32 (λ j. datagram (31 - j)) (31 - i) (omega arith)))

pub backwards_handed : handed 32 32 outset (map arrives backwards ++ takes_of 32) ≡ tabulate 20 block
backwards_handed = twenty_handed (map arrives backwards) backwards_from backwards_covers
