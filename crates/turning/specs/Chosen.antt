-- Which numbers are to turn, as a call hands it on: a flag for each number's place, or all below a number.
use Rattle.std.specs.Prelude.{ℕ, ◌%◌, Bool, true, false, cond, List, get_or, ltb}

unfoldable pub chosen_by : ℕ → List Bool → ℕ → ℕ → Bool
chosen_by w flags upto n = cond (get_or flags (n % w) false) true (ltb n upto)
