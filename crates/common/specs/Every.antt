-- Tests that must all pass: those of a list, and one for every number below a bound.
use Rattle.std.specs.Prelude.{ℕ, zero, suc, Bool, true, false, cond, List, [], ◌∷◌}

unfoldable pub every : List Bool → Bool
every [] = true
every (b ∷ bs) = cond b (every bs) false

unfoldable pub all_below : (ℕ → Bool) → ℕ → Bool
all_below p zero = true
all_below p (suc n) = cond (p n) (all_below p n) false

-- the one gives the other
unfoldable pub implies : Bool → Bool → Bool
implies a b = cond a b true

-- for how many numbers below a bound a test holds
unfoldable pub count_below : (ℕ → Bool) → ℕ → ℕ
count_below p zero = 0
count_below p (suc n) = cond (p n) (suc (count_below p n)) (count_below p n)
