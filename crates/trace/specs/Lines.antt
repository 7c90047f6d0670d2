-- The lines of a text: what stands between two newlines, or behind the last one if anything does.
use Rattle.std.specs.Prelude.{ℕ, cond, List, [], ◌∷◌, eqb}

-- what stands before the first x
unfoldable pub up_to : ℕ → List ℕ → List ℕ
up_to x [] = []
up_to x (b ∷ bs) = cond (eqb b x) [] (b ∷ up_to x bs)

-- what stands behind it
unfoldable pub past : ℕ → List ℕ → List ℕ
past x [] = []
past x (b ∷ bs) = cond (eqb b x) bs (past x bs)

-- a byte at the front of the first line
unfoldable pub at_front : ℕ → List (List ℕ) → List (List ℕ)
at_front b [] = (b ∷ []) ∷ []
at_front b (l ∷ ls) = (b ∷ l) ∷ ls

unfoldable pub lines_of : List ℕ → List (List ℕ)
lines_of [] = []
lines_of (b ∷ bs) = cond (eqb b 10) ([] ∷ lines_of bs) (at_front b (lines_of bs))
