-- The bytes at a place of a datagram, as they came: only what stands at place 7 lies elsewhere.
use Prim.Native.Nat.{ℕ, ◌+◌, ◌-◌, ◌≤◌, ◌<◌}
use mathlib.Core.List.{List}
use mathlib.Core.Path.{◌≡◌, sym, ◌∙◌, ap}
use native.Mathlib.Omega.{arith}
use lib.ListN.{length, get_or, set, take, drop, length-drop}
use lib.Seq.{drop-set-lt, drop-set-add, take-set-le, take-set-lt, length-take-le}
use Rattle.common.specs.Put.{put_of, put_set}
use Rattle.wire.specs.Frame.{swapped}
use Rattle.wire.specs.Layout.{part_of}

-- behind place 7 nothing is exchanged
pub part_behind : (d : List ℕ) (at n : ℕ) → 7 < at → take n (drop at d) ≡ part_of d at n
unfolding part_of swapped
part_behind d at n h =
    ap (take n) (sym (drop-set-lt at (set d 0 (get_or d 7 0)) 7 (get_or d 0 0) h ∙ drop-set-lt at d 0 (get_or d 7 0) (omega arith)))

-- up to place 7, what comes from there on
from_there : (d : List ℕ) (at : ℕ) → 1 ≤ at → at ≤ 7 → drop at (swapped d) ≡ set (drop at d) (7 - at) (get_or d 0 0)
unfolding swapped
from_there d at h l =
    let e : 7 ≡ at + (7 - at) = omega arith in
    ap (λ (k : ℕ). drop at (set (set d 0 (get_or d 7 0)) k (get_or d 0 0))) e
    ∙ drop-set-add at (set d 0 (get_or d 7 0)) (7 - at) (get_or d 0 0)
    ∙ ap (λ (x : List ℕ). set x (7 - at) (get_or d 0 0)) (drop-set-lt at d 0 (get_or d 7 0) (omega arith))

pub part_before : (d : List ℕ) (at n : ℕ) → 1 ≤ at → at ≤ 7 → n ≤ 7 - at → take n (drop at d) ≡ part_of d at n
unfolding part_of
part_before d at n h l s = sym (ap (take n) (from_there d at h l) ∙ take-set-le n (drop at d) (7 - at) (get_or d 0 0) s)

part_over : (d : List ℕ) (at n : ℕ) → 1 ≤ at → at ≤ 7 → 7 - at < n → set (take n (drop at d)) (7 - at) (get_or d 0 0) ≡ part_of d at n
unfolding part_of
part_over d at n h l s = sym (ap (take n) (from_there d at h l) ∙ take-set-lt n (drop at d) (7 - at) (get_or d 0 0) s)

-- the same as a call that copies sees it
as_told : (dst d e : List ℕ) (to at n : ℕ) → e ≡ put_of dst to (take (at + n - at) (drop at d)) → e ≡ put_of dst to (take n (drop at d))
as_told dst d e to at n x = let q : at + n - at ≡ n = omega arith in x ∙ ap (λ (k : ℕ). put_of dst to (take k (drop at d))) q

pub copied_plain : (dst d e : List ℕ) (to at n : ℕ) → e ≡ put_of dst to (take (at + n - at) (drop at d)) → take n (drop at d) ≡ part_of d at n
    → e ≡ put_of dst to (part_of d at n)
copied_plain dst d e to at n x y = as_told dst d e to at n x ∙ ap (put_of dst to) y

pub copied_over : (dst d e : List ℕ) (to at n : ℕ) → e ≡ put_of dst to (take (at + n - at) (drop at d)) → 1 ≤ at → at ≤ 7 → 7 - at < n
    → at + n ≤ length d → to + n ≤ length dst → set e (to + (7 - at)) (get_or d 0 0) ≡ put_of dst to (part_of d at n)
copied_over dst d e to at n x h l s r t =
    let z : length (take n (drop at d)) ≡ n = length-take-le n (drop at d) (omega (arith, length-drop at d)) in
    ap (λ (k : List ℕ). set k (to + (7 - at)) (get_or d 0 0)) (as_told dst d e to at n x)
    ∙ put_set dst to (take n (drop at d)) (7 - at) (get_or d 0 0) (omega arith) (omega arith)
    ∙ ap (put_of dst to) (part_over d at n h l s)
