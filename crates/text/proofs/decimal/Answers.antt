-- `decimal` meets its contract, since the digits of what is left and the digits found are, at each turn of the loop, the digits of n.
use borrow.Author.Rules.{rules}
use native.Mathlib.Omega.{arith}
use Prim.Native.Nat.{ℕ, suc, ◌+◌, ◌-◌, ◌%◌, ◌/◌, ◌≤◌, ◌<◌}
use mathlib.Core.List.{List, [], ◌∷◌, ◌++◌, append_assoc, append-nil}
use mathlib.Core.Path.{◌≡◌, refl, sym, ◌∙◌, ap}
use lib.ListN.{length, take, drop, set, length-set, length-take, length-drop}
use lib.Seq.{take_all, drop-cons, get_or-set_same, drop-set-lt}
use Rattle.common.specs.Laid.{laid_as}
use Rattle.text.specs.Decimal.{decimal_of}
use Rattle.text.specs.Laws.{decimal_small, decimal_more, decimal_longer, decimal_some, decimal_length}
use Rattle.text.proofs.decimal.Goals as goal

-- a byte stored before place i comes before what stands from i on
stored : (ds : List ℕ) (i x : ℕ) → 0 < i → i ≤ length ds → drop (i - 1) (set ds (i - 1) x) ≡ x ∷ drop i ds
stored ds i x p h =
    let k : suc (i - 1) ≡ i = omega arith in
    let l : i - 1 < length (set ds (i - 1) x) = rw length-set (omega arith) in
    drop-cons (set ds (i - 1) x) (i - 1) 0 l
    ∙ rw (get_or-set_same ds (i - 1) x 0 (omega arith), k) (ap (λ (s : List ℕ). x ∷ s) (drop-set-lt i ds (i - 1) x (omega arith)))

-- the last digit of what is left, stored
stored_more : (ds : List ℕ) (i n : ℕ) → 0 < i → i ≤ length ds → 10 ≤ n
    → decimal_of (n / 10) ++ drop (i - 1) (set ds (i - 1) (48 + n % 10)) ≡ decimal_of n ++ drop i ds
stored_more ds i n p h m =
    rw (stored ds i (48 + n % 10) p h, decimal_more n m) (sym (append_assoc (decimal_of (n / 10)) ((48 + n % 10) ∷ []) (drop i ds)))

-- the only digit of what is left, stored, and all from it on
stored_last : (ds : List ℕ) (i n : ℕ) → 0 < i → i ≤ 20 → length ds ≡ 20 → n < 10
    → take (20 - (i - 1)) (drop (i - 1) (set ds (i - 1) (48 + n))) ≡ decimal_of n ++ drop i ds
stored_last ds i n p h l m =
    take_all (20 - (i - 1)) (drop (i - 1) (set ds (i - 1) (48 + n))) (simp (length-drop, length-set) (omega arith))
    ∙ rw (stored ds i (48 + n) p (omega arith), decimal_small n m) refl

pub loop-rest-init : goal.loop-rest-init
loop-rest-init c = (search rules, search rules, decimal_length 20 c.args.n (omega arith) (omega arith), append-nil _)

pub overflow_sub-i : goal.overflow_sub-i
overflow_sub-i c = omega (arith, decimal_some c.loop-rest.rest)

pub bounds-digits-i : goal.bounds-digits-i
bounds-digits-i c = omega (arith, decimal_some c.loop-rest.rest)

pub loop-rest-preserved : goal.loop-rest-preserved
loop-rest-preserved c =
    let l = c.loop-rest in
    let s : 1 ≤ length (decimal_of (l.rest / 10)) = decimal_some (l.rest / 10) in
    let e : length (decimal_of l.rest) ≡ length (decimal_of (l.rest / 10)) + 1 = decimal_longer l.rest (omega arith) in (
      omega arith,
      simp length-set l.invariant.1,
      omega arith,
      stored_more l.digits l.i l.rest (omega arith) (omega arith) (omega arith) ∙ l.invariant.3,
    )

pub overflow_sub-i-2 : goal.overflow_sub-i-2
overflow_sub-i-2 c = omega (arith, decimal_some c.loop-rest.rest)

pub bounds-digits-i-2 : goal.bounds-digits-i-2
bounds-digits-i-2 c = omega (arith, decimal_some c.loop-rest.rest)

pub slice_bounds-lay-count : goal.slice_bounds-lay-count
slice_bounds-lay-count c = omega arith

pub lay-requires : goal.lay-requires
lay-requires c = simp (length-take, length-drop, length-set) (omega arith)

pub returns : goal.returns
returns c =
    let w = c.lay.ensures in
    let l = c.loop-rest in
    let a = c.args in
    let e = stored_last l.digits l.i l.rest (omega (arith, decimal_some l.rest)) (omega arith) l.invariant.1 (omega arith) ∙ l.invariant.3 in
    laid_as e w
