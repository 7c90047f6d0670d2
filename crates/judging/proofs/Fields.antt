-- The number that a field stands for, a law for each way out.
use Prim.Native.Nat.{ℕ}
use mathlib.Core.Bool.{Bool, true, false}
use mathlib.Core.Option.{Option, none, some}
use mathlib.Core.Path.{◌≡◌, refl, sym, ◌∙◌, ap}
use Rattle.std.specs.Prelude.{Option as Found, Some, None}
use Rattle.numbers.specs.declared.DataNumber.{DataNumber}
use Rattle.numbers.specs.declared.Widened.{Widened}
use Rattle.numbers.specs.declared.Widened.TheVariants.{At, Below, Unclear}
use Rattle.numbers.specs.Widen.{widen_of, widened_as, widened_back, out_of, data_of}
use Rattle.receiver.specs.Receive.{in_place, on_some, if_flagged}
use Rattle.judging.specs.Judge.{found_as, waived_at}

-- THE NUMBER THAT A FIELD STANDS FOR

place_out : (first : ℕ) (x : Widened ℕ) → out_of first x ≡ true → in_place first x ≡ none
place_out first (At n) h = rw h refl
place_out first (Below m) h = refl
place_out first Unclear h = refl

-- a kind of number, and what a field widens to as one of it
module _ {N : Type 0} (of : ℕ → N) (first reference f : ℕ) (x : Widened N) (wide : x ≡ widened_as of (widen_of reference f)) where
  -- a case in which no number stands
  pub found_none : ((n : N) → x ≡ At n → ⊥) → None ≡ found_as of (in_place first (widen_of reference f))
  unfolding found_as
  found_none never = go (widen_of reference f) wide
    where
      go : (a : Widened ℕ) → x ≡ widened_as of a → None ≡ found_as of (in_place first a)
      go (At m) e = absurd (never (of m) e)
      go (Below m) e = refl
      go Unclear e = refl

  module _ (full : N → ℕ) (back : (n : ℕ) → full (of n) ≡ n) (b : Bool) (out : b ≡ out_of first (widened_as full x)) where
    judged : out_of first (widen_of reference f) ≡ b
    judged = ap (out_of first) (sym (ap (widened_as full) wide ∙ widened_back full of back (widen_of reference f))) ∙ sym out

    pub found_out : b ≡ true → None ≡ found_as of (in_place first (widen_of reference f))
    unfolding found_as
    found_out h = ap (found_as of) (sym (place_out first (widen_of reference f) (judged ∙ h)))

    pub found_at : (n : N) → b ≡ false → x ≡ At n → Some n ≡ found_as of (in_place first (widen_of reference f))
    unfolding found_as
    found_at n h e = go (widen_of reference f) (sym e ∙ wide) (judged ∙ h)
      where
        number_or : N → Widened N → N
        number_or d (At m) = m
        number_or d (Below m) = d
        number_or d Unclear = d

        go : (a : Widened ℕ) → At n ≡ widened_as of a → out_of first a ≡ false → Some n ≡ found_as of (in_place first a)
        go (At m) q t = rw t (ap Some (ap (number_or n) q))
        go (Below m) q t = cc
        go Unclear q t = cc

-- THE NUMBER BELOW WHICH ALL IS WAIVED

pub aoa_given : (flag : Bool) (v : Option ℕ) (x : Found DataNumber) → flag ≡ true → x ≡ found_as data_of v → x ≡ waived_at (if_flagged flag v)
unfolding if_flagged found_as waived_at on_some
aoa_given flag v x t e = rw t (e ∙ go v)
  where
    go : (a : Option ℕ) → found_as data_of a ≡ waived_at (on_some a (λ n. some (some n)))
    go none = refl
    go (some n) = refl

pub aoa_absent : (flag : Bool) (v : Option ℕ) → flag ≡ false → Some (data_of 0) ≡ waived_at (if_flagged flag v)
unfolding if_flagged waived_at
aoa_absent flag v t = rw t refl
