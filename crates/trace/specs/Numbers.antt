-- "Numbers are decimal, without leading zeros, below 2^32."
use Rattle.std.specs.Prelude.{ℕ, Bool, true, false, cond, not, List, [], ◌∷◌, length, drop, get_or, eqb, ltb, leb, Option, None, Some}
use Rattle.common.specs.Every.{every}
use Rattle.text.specs.Ascii.{ascii}
use Rattle.text.specs.Decimal.{value_of}
use Rattle.trace.specs.Lines.{up_to, past}
use Rattle.trace.specs.Words.{starts_with}

-- a byte from `0` to `9`
unfoldable pub is_digit : ℕ → Bool
is_digit b = cond (ltb b 48) false (leb b 57)

unfoldable pub all_digits : List ℕ → Bool
all_digits [] = true
all_digits (b ∷ bs) = cond (is_digit b) (all_digits bs) false

-- `0` before another digit
unfoldable pub leading_zero : List ℕ → Bool
leading_zero ds = cond (ltb 1 (length ds)) (eqb (get_or ds 0 0) 48) false

unfoldable pub is_number : List ℕ → Bool
is_number ds =
    every (not (eqb (length ds) 0) ∷ not (leading_zero ds) ∷ all_digits ds ∷ ltb (value_of ds) 4294967296 ∷ [])

unfoldable pub number_of : List ℕ → Option ℕ
number_of ds = cond (is_number ds) (Some (value_of ds)) None

-- the number behind a key
unfoldable pub number_under : List ℕ → List ℕ → Option ℕ
number_under key l = cond (starts_with key l) (number_of (drop (length key) l)) None

-- what follows a number that is well written, and what if it is not
abbrev pub on_number : {A : Type 0} → Option ℕ → (ℕ → A) → A → A
on_number (Some n) f a = f n
on_number None f a = a

-- two numbers around the first comma
unfoldable pub pair_of : List ℕ → Option (ℕ × ℕ)
pair_of t = on_number (number_of (up_to 44 t)) (λ d. on_number (number_of (past 44 t)) (λ c. Some (d, c)) None) None

-- "`first=D,C` (the two first numbers)"
unfoldable pub first_of : List ℕ → Option (ℕ × ℕ)
first_of l = cond (starts_with (ascii "first=") l) (pair_of (drop 6 l)) None

abbrev pub on_pair : {A : Type 0} → Option (ℕ × ℕ) → (ℕ → ℕ → A) → A → A
on_pair (Some (d, c)) f a = f d c
on_pair None f a = a
