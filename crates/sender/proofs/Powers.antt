-- How many data numbers may be out, on either side of the window's own LogWindowSize.
use Prim.Native.Nat.{ℕ, ◌*◌, ◌%◌, ◌^◌, ◌≤◌, ◌<◌, min}
use mathlib.Core.Logic.{⊎_elim}
use mathlib.Core.Path.{◌≡◌, sym, ◌∙◌, ap}
use native.Mathlib.Nat.{min-eq_left, min-eq_right, one-mul}
use native.Mathlib.Omega.{arith}
use lib.Dec.{leb}
use lib.Pow.{pow_mono, shl_exact}
use Rattle.common.specs.Facts.{lt_or_ge}
use Rattle.sender.specs.Send.{limit_of}

limit_wide : (k : ℕ) → 5 ≤ k → 32 ≡ limit_of 32 k
unfolding limit_of
limit_wide k l = sym (min-eq_left (pow_mono {i = 5} {j = k} l))

limit_narrow : (k : ℕ) → k < 5 → (1 * 2 ^ k) % 2 ^ 64 ≡ limit_of 32 k
unfolding limit_of
limit_narrow k l = shl_exact {a = 1} 1 k 64 (omega arith) (omega arith) ∙ one-mul (2 ^ k) ∙ sym (min-eq_right (pow_mono {i = k} {j = 5} (omega arith)))

pub limit_is : (k m : ℕ) → m ≡ min k 5 → (1 * 2 ^ m) % 2 ^ 64 ≡ limit_of 32 k
limit_is k m e =
    ⊎_elim
    (λ lt. let z : m ≡ k = omega arith in rw z (limit_narrow k lt))
    (λ ge. let z : m ≡ 5 = omega arith in rw z (limit_wide k ge))
    (lt_or_ge k 5)

pub compared : (a b n : ℕ) → a ≡ b → leb a n ≡ leb b n
compared a b n h = ap (λ (x : ℕ). leb x n) h
