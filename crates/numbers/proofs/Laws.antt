-- A law for each way out of the functions.
use Rattle.std.proofs.Common.{◌≡◌, ℕ, ◌+◌, ◌-◌, ◌%◌, ◌<◌, ◌≤◌, refl, ap, ◌∙◌, arith, le-ltb, lt-ltb, ne_eqb, le-leb}
use borrow.Author.Tests.{lt-leb}
use Rattle.numbers.specs.declared.Widened.TheVariants.{At, Below}
use Rattle.numbers.specs.Widen.{back_of, widen_of}
use Rattle.numbers.specs.Age.{since_of, age_of}

-- top and back as the code has them, a field not half a lap away
module _ (r f top back : ℕ) (et : top ≡ r + 32767) (eb : back ≡ (top + 65536 - f) % 65536) (clear : (r + 32768) % 65536 ≡ f → ⊥) where
  back_is : back ≡ back_of r f
  back_is = eb ∙ ap (λ (t : ℕ). (t + 65536 - f) % 65536) et

  pub widen_at : back ≤ top → At (top - back) ≡ widen_of r f
  unfolding widen_of
  widen_at h =
      let b : back ≡ back_of r f = back_is in
      let le : back_of r f ≤ r + 32767 = omega arith in
      rw (ne_eqb ((r + 32768) % 65536) f clear, le-leb (back_of r f) (r + 32767) le, et, b) refl

  pub widen_below : top < back → Below (back - top) ≡ widen_of r f
  unfolding widen_of
  widen_below h =
      let b : back ≡ back_of r f = back_is in
      let lt : r + 32767 < back_of r f = omega arith in
      rw (ne_eqb ((r + 32768) % 65536) f clear, lt-leb (back_of r f) (r + 32767) lt, et, b) refl

-- the age, by what a wrapping difference is
pub age_old : (p now sent : ℕ) → p ≡ since_of now sent → 2147483648 ≤ p → 0 ≡ age_of now sent
unfolding age_of
age_old p now sent e h = let g : 2147483648 ≤ since_of now sent = omega arith in rw (le-ltb (since_of now sent) 2147483648 g) refl

pub age_young : (p now sent : ℕ) → p ≡ since_of now sent → p < 2147483648 → p ≡ age_of now sent
unfolding age_of
age_young p now sent e h = let g : since_of now sent < 2147483648 = omega arith in rw (lt-ltb (since_of now sent) 2147483648 g) e
