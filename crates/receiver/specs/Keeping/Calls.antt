-- Each call keeps a record consistent and a store at its size.
use Rattle.std.specs.Prelude.{ℕ, ◌≤◌, ◌<◌, Bool, true, false, cond, List, [], ◌∷◌, ◌≡◌, refl, eqb, ltb, length, Err, Ok, Some, None}
use Rattle.std.proofs.Math.Option.{Option, none, some}
use Rattle.std.proofs.Common.{sym, ◌∙◌, arith, eqb-true, ltb-false}
use Rattle.common.specs.Order.{test}
use Rattle.numbers.specs.Full.{highest}
use Rattle.window.specs.Store.{place_size}
use Rattle.wire.specs.Round.Tests.{all_pass}
use Rattle.wire.specs.Read.{read_of, Reading}
use Rattle.wire.specs.Same.{body_in}
use Rattle.receiver.specs.declared.Receiver.{Receiver}
use Rattle.receiver.specs.Record.{State}
use Rattle.receiver.specs.Consistent.{sound_of}
use Rattle.receiver.specs.Packet.{Packet, Arrival, nothing, waiver, content, packet_answer, arrival_answer, receiver_after, waiver_after, store_after, packet_of, arrival_of}
use Rattle.receiver.specs.Take.{receiver_taken, take_answer, taken_of}
use Rattle.receiver.specs.Receive.{arrival_from, state_for, values_of, read_into, receive_of}
use Rattle.receiver.specs.Facts.{sound_facts, facts_sound}
use Rattle.receiver.specs.Keeping.Accepted.{packet_accepted, taken_held}
use Rattle.receiver.specs.Keeping.After.{packet_facts, waiver_facts, taken_facts, store_length}
use Rattle.receiver.specs.Blocks.{read_block}
use Rattle.receiver.specs.Keeping.Brought.{Short, brought_short}

abbrev pub Sound : ℕ → ℕ → State → Type 0
Sound w cap s = sound_of w cap s.receiver (length s.store) ≡ true

-- A step that is taken only where an answer is 0.
when_zero : (w cap n : ℕ) (s t : State) → Sound w cap s → (n ≡ 0 → Sound w cap t) → Sound w cap (cond (eqb n 0) t s)
when_zero w cap n s t h f = go (eqb n 0) refl
  where
    go : (b : Bool) → eqb n 0 ≡ b → Sound w cap (cond b t s)
    go true e = f (eqb-true n 0 e)
    go false e = h

pub packet_sound : (w cap : ℕ) (s : State) (p : Packet) → 0 < w → w ≤ cap → length p.block ≤ place_size → Sound w cap s → Sound w cap (packet_of w s p)
unfolding packet_of
packet_sound w cap s p pos fits short h =
    let (k, size) = sound_facts w cap s.receiver (length s.store) h in
    when_zero w cap (packet_answer w s.receiver p) s _ h λ e.
    facts_sound w cap (receiver_after w s.receiver p) (length (store_after w s p))
    (packet_facts s.receiver p pos fits k (packet_accepted w s.receiver p e) short) (store_length w s p pos size short ∙ size)

waiver_range : (w : ℕ) (r : Receiver) (v : ℕ) → arrival_answer w r (waiver v) ≡ 0 → v ≤ highest
unfolding arrival_answer
waiver_range w r v e = ltb-false highest v (all_pass (test (ltb highest v) 7 ∷ []) (omega arith) (sym e)).0

pub arrival_sound : (w cap : ℕ) (s : State) (a : Arrival) → 0 < w → w ≤ cap → Short a → Sound w cap s → Sound w cap (arrival_of w s a)
unfolding arrival_of
arrival_sound w cap s nothing pos fits short h = h
arrival_sound w cap s (waiver v) pos fits short h =
    let (k, size) = sound_facts w cap s.receiver (length s.store) h in
    when_zero w cap (arrival_answer w s.receiver (waiver v)) s _ h λ e.
    facts_sound w cap (waiver_after w s.receiver v) (length s.store)
    (waiver_facts s.receiver v pos fits k (waiver_range w s.receiver v e)) size
arrival_sound w cap s (content p) pos fits short h = packet_sound w cap s p pos fits short h

pub take_sound : (w cap : ℕ) (s : State) (room : ℕ) → 0 < w → w ≤ cap → Sound w cap s
    → sound_of w cap (taken_of w cap s room) (length s.store) ≡ true
unfolding taken_of
take_sound w cap s room pos fits h = go (eqb (take_answer w cap s room) 0) refl
  where
    go : (b : Bool) → eqb (take_answer w cap s room) 0 ≡ b
        → sound_of w cap (cond b (receiver_taken w s.receiver) s.receiver) (length s.store) ≡ true
    go true e =
        let (k, size) = sound_facts w cap s.receiver (length s.store) h in
        facts_sound w cap (receiver_taken w s.receiver) (length s.store)
        (taken_facts s.receiver pos fits k (taken_held w cap s room (eqb-true (take_answer w cap s room) 0 e))) size
    go false e = h

-- A datagram.

brought_sound : (w cap : ℕ) (s : State) (o : Option Arrival) → 0 < w → w ≤ cap → ((a : Arrival) → o ≡ some a → Short a) → Sound w cap s
    → Sound w cap (state_for w s o)
brought_sound w cap s none pos fits short h = h
brought_sound w cap s (some a) pos fits short h = arrival_sound w cap s a pos fits (short a refl) h

read_sound : (w cap : ℕ) (s : State) (d : List ℕ) (x : Reading) → read_of d ≡ x → 0 < w → w ≤ cap → Sound w cap s → Sound w cap (read_into w s d x)
unfolding read_into values_of
read_sound w cap s d (Err n) e pos fits h = h
read_sound w cap s d (Ok None) e pos fits h = h
read_sound w cap s d (Ok (Some p)) e pos fits h =
    brought_sound w cap s (arrival_from s.receiver p.values (body_in d p)) pos fits
    (brought_short s.receiver p.values (body_in d p) (λ t. let k = read_block d p e t in omega (arith, k.long, k.short))) h

pub receive_sound : (w cap : ℕ) (s : State) (d : List ℕ) → 0 < w → w ≤ cap → Sound w cap s → Sound w cap (receive_of w cap s d)
unfolding receive_of
receive_sound w cap s d pos fits h = rw h (read_sound w cap s d (read_of d) refl pos fits h)
