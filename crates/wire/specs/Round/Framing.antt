-- What framing comes to: exchanged again, the prefix and the padded packet are as they were, and reading ends where the packet does.
use Rattle.std.specs.Prelude.{ℕ, zero, suc, ◌+◌, ◌-◌, ◌*◌, ◌≤◌, ◌<◌, max, Bool, true, false, List, [], ◌∷◌, ◌≡◌, refl, length, get_or, set, eqb, ltb}
use Rattle.std.proofs.Common.{arith, length-append, length-set, length-take, length-drop, ne_eqb, ltb-true, ltb-false}
use Rattle.std.proofs.lemmas.List.{length-replicate}
use Rattle.wire.specs.Frame.{swapped, reserved_in, type_in, short_in, dropped_by, end_of, framed, prefix_for, padded}
use Rattle.wire.specs.Layout.{part_of}
use Rattle.wire.specs.Same.{Bytes}

pub swapped_length : (d : List ℕ) → length (swapped d) ≡ length d
unfolding swapped
swapped_length d = simp length-set

-- A second exchange undoes the first where there is an eighth byte.
swapped_twice : (d : List ℕ) → 8 ≤ length d → swapped (swapped d) ≡ d
unfolding swapped
swapped_twice [] h = absurd (omega arith)
swapped_twice (a ∷ []) h = absurd (omega arith)
swapped_twice (a ∷ b ∷ []) h = absurd (omega arith)
swapped_twice (a ∷ b ∷ c ∷ []) h = absurd (omega arith)
swapped_twice (a ∷ b ∷ c ∷ d ∷ []) h = absurd (omega arith)
swapped_twice (a ∷ b ∷ c ∷ d ∷ e ∷ []) h = absurd (omega arith)
swapped_twice (a ∷ b ∷ c ∷ d ∷ e ∷ f ∷ []) h = absurd (omega arith)
swapped_twice (a ∷ b ∷ c ∷ d ∷ e ∷ f ∷ g ∷ []) h = absurd (omega arith)
swapped_twice (a ∷ b ∷ c ∷ d ∷ e ∷ f ∷ g ∷ i ∷ l) h = refl

-- A list of bytes stays one.
set_small : (l : List ℕ) (k a : ℕ) → Bytes l → a < 256 → Bytes (set l k a)
set_small [] k a small h i = small i
set_small (x ∷ xs) zero a small h zero = h
set_small (x ∷ xs) zero a small h (suc i) = small (suc i)
set_small (x ∷ xs) (suc k) a small h zero = small zero
set_small (x ∷ xs) (suc k) a small h (suc i) = set_small xs k a (λ j. small (suc j)) h i

pub swapped_small : (d : List ℕ) → Bytes d → Bytes (swapped d)
unfolding swapped
swapped_small d small = set_small (set d 0 (get_or d 7 0)) 7 _ (set_small d 0 _ small (small 7)) (small 0)

padded_length : (packet : List ℕ) → length (padded packet) ≡ max 7 (length packet)
unfolding padded
padded_length packet = simp (length-append, length-replicate) (omega arith)

pub framed_length : (prefix : ℕ) (packet : List ℕ) → length (framed prefix (padded packet)) ≡ 1 + max 7 (length packet)
unfolding framed
framed_length prefix packet = simp (swapped_length, padded_length) (omega arith)

pub framed_swapped : (prefix : ℕ) (packet : List ℕ) → swapped (framed prefix (padded packet)) ≡ prefix ∷ padded packet
unfolding framed
framed_swapped prefix packet = swapped_twice (prefix ∷ padded packet) (omega (arith, padded_length packet))

-- The prefix that is written reserves nothing, has type 0, and drops just the padding.
pub record Prefix (packet : List ℕ) : Type 0 where
  pub plain : reserved_in (prefix_for packet) ≡ 0
  pub kind : type_in (prefix_for packet) ≡ 0
  pub drops : dropped_by (prefix_for packet) ≡ 7 - length packet

pub prefix_facts : (packet : List ℕ) → 0 < length packet → Prefix packet
unfolding prefix_for dropped_by
prefix_facts packet h = go (ltb (length packet) 7) refl
  where
    go : (b : Bool) → ltb (length packet) 7 ≡ b → Prefix packet
    go true t =
        let l : length packet < 7 = ltb-true _ _ t in
        let n : eqb (short_in (32 * length packet)) 0 ≡ false = ne_eqb (short_in (32 * length packet)) 0 (omega arith) in
        record { plain = rw t (omega arith); kind = rw t (omega arith); drops = rw (t, n) (omega arith) }
    go false t =
        let l : 7 ≤ length packet = ltb-false _ _ t in
        record { plain = rw t refl; kind = rw t refl; drops = rw t (omega arith) }

pub framed_end : (packet : List ℕ) → 0 < length packet → end_of (prefix_for packet ∷ padded packet) ≡ 1 + length packet
unfolding end_of
framed_end packet h = rw (padded_length packet) (omega (arith, (prefix_facts packet h).drops))

-- A part that stands within a datagram has its length.
pub part_length : (d : List ℕ) (at n : ℕ) → at + n ≤ length d → length (part_of d at n) ≡ n
unfolding part_of
part_length d at n h = simp (length-take, length-drop, swapped_length) (omega arith)
