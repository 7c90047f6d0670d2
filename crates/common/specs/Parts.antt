-- A part of a buffer after bytes were laid over it, there or elsewhere; the places of a store, 1,225 bytes each, are such parts.
use Rattle.std.specs.Prelude.{ℕ, ◌+◌, ◌-◌, ◌*◌, ◌≤◌, ◌<◌, List, ◌++◌, ◌≡◌, length, take, drop}
use Rattle.std.proofs.Common.{append_assoc, ⊎_elim, sym, ◌∙◌, ap, arith, length-append, length-drop, take-append-drop, length-take-le, drop_at, drop-drop}
use Rattle.std.proofs.Math.Seq.{take-append_seam, drop-append-add}
use Rattle.std.proofs.lemmas.List.{take-append-le, drop-append-le}
use Rattle.common.specs.Facts.{lt_or_ge}
use Rattle.common.specs.Put.{put_of}

-- What was laid there stands there.
pub part_laid : (d : List ℕ) (at : ℕ) (b : List ℕ) → at + length b ≤ length d → take (length b) (drop at (put_of d at b)) ≡ b
unfolding put_of
part_laid d at b h =
    ap (λ (l : List ℕ). take (length b) (drop at l)) (append_assoc (take at d) b (drop (at + length b) d))
    ∙ ap (take (length b)) (drop_at (take at d) (b ++ drop (at + length b) d) at (length-take-le at d (omega arith)))
    ∙ take-append_seam b (drop (at + length b) d)

part_first : (x y : List ℕ) (at n : ℕ) → at + n ≤ length x → take n (drop at (x ++ y)) ≡ take n (drop at x)
part_first x y at n h =
    ap (take n) (drop-append-le at x y (omega arith)) ∙ take-append-le n (drop at x) y (omega (arith, length-drop at x))

-- What lies before it, or behind it, is as it was.
part_before : (d : List ℕ) (at : ℕ) (b : List ℕ) (p n : ℕ) → at ≤ length d → p + n ≤ at → take n (drop p (put_of d at b)) ≡ take n (drop p d)
unfolding put_of
part_before d at b p n h lt =
    let l : p + n ≤ length (take at d) = omega (arith, length-take-le at d h) in
    ap (λ (r : List ℕ). take n (drop p r)) (append_assoc (take at d) b (drop (at + length b) d))
    ∙ part_first (take at d) (b ++ drop (at + length b) d) p n l
    ∙ sym (part_first (take at d) (drop at d) p n l)
    ∙ ap (λ (r : List ℕ). take n (drop p r)) (take-append-drop at d)

part_behind : (d : List ℕ) (at : ℕ) (b : List ℕ) (p : ℕ) → at ≤ length d → at + length b ≤ p → drop p (put_of d at b) ≡ drop p d
unfolding put_of
part_behind d at b p h ge =
    let l : length (take at d ++ b) ≡ at + length b = length-append (take at d) b ∙ ap (λ (k : ℕ). k + length b) (length-take-le at d h) in
    let e : p ≡ length (take at d ++ b) + (p - (at + length b)) = omega arith in
    let f : at + length b + (p - (at + length b)) ≡ p = omega arith in
    ap (λ (k : ℕ). drop k (take at d ++ b ++ drop (at + length b) d)) e
    ∙ drop-append-add (take at d ++ b) (drop (at + length b) d) (p - (at + length b))
    ∙ drop-drop (p - (at + length b)) (at + length b) d
    ∙ ap (λ (k : ℕ). drop k d) f

-- A block laid into place i leaves place j.
pub part_other : (d : List ℕ) (i : ℕ) (b : List ℕ) (j n : ℕ) → i * 1225 + length b ≤ length d → length b ≤ 1225 → n ≤ 1225 → (j ≡ i → ⊥)
    → take n (drop (j * 1225) (put_of d (i * 1225) b)) ≡ take n (drop (j * 1225) d)
part_other d i b j n h lb ln ne = ⊎_elim before behind (lt_or_ge j i)
  where
    before : j < i → take n (drop (j * 1225) (put_of d (i * 1225) b)) ≡ take n (drop (j * 1225) d)
    before lt = part_before d (i * 1225) b (j * 1225) n (omega arith) (omega arith)

    behind : i ≤ j → take n (drop (j * 1225) (put_of d (i * 1225) b)) ≡ take n (drop (j * 1225) d)
    behind ge =
        let lt : i < j = ⊎_elim (λ lt. lt) (λ le. absurd (ne (omega arith))) (lt_or_ge i j) in
        ap (take n) (part_behind d (i * 1225) b (j * 1225) (omega arith) (omega arith))

pub part_length : (d : List ℕ) (at n : ℕ) → at + n ≤ length d → length (take n (drop at d)) ≡ n
part_length d at n h = length-take-le n (drop at d) (omega (arith, length-drop at d))
