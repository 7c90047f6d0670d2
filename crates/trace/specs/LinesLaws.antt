-- Laws of lines: what stands before a byte and behind it by its place, and the first line of a text before the others.
use Rattle.std.specs.Prelude.{ℕ, suc, ◌+◌, ◌≤◌, ◌<◌, Bool, true, false, cond, List, [], ◌∷◌, ◌≡◌, refl, length, take, drop, eqb}
use Rattle.std.proofs.Common.{sym, ◌∙◌, ap, suc-add, arith}
use Rattle.trace.specs.Lines.{up_to, past, at_front, lines_of}

pub up_to_length : (x : ℕ) (b : List ℕ) → length (up_to x b) ≤ length b
unfolding up_to
up_to_length x [] = omega arith
up_to_length x (y ∷ ys) = go (eqb y x) (up_to_length x ys)
  where
    go : (t : Bool) → length (up_to x ys) ≤ length ys → length (cond t [] (y ∷ up_to x ys)) ≤ suc (length ys)
    go true h = omega arith
    go false h = omega arith

pub up_to_take : (x : ℕ) (b : List ℕ) → up_to x b ≡ take (length (up_to x b)) b
unfolding up_to
up_to_take x [] = refl
up_to_take x (y ∷ ys) = go (eqb y x) (up_to_take x ys)
  where
    go : (t : Bool) → up_to x ys ≡ take (length (up_to x ys)) ys
        → cond t [] (y ∷ up_to x ys) ≡ take (length (cond t [] (y ∷ up_to x ys))) (y ∷ ys)
    go true e = refl
    go false e = ap (λ (l : List ℕ). y ∷ l) e

pub past_drop : (x : ℕ) (b : List ℕ) → past x b ≡ drop (length (up_to x b) + 1) b
unfolding up_to past
past_drop x [] = refl
past_drop x (y ∷ ys) = go (eqb y x) (past_drop x ys)
  where
    go : (t : Bool) → past x ys ≡ drop (length (up_to x ys) + 1) ys
        → cond t ys (past x ys) ≡ drop (length (cond t [] (y ∷ up_to x ys)) + 1) (y ∷ ys)
    go true e = refl
    go false e = e ∙ ap (λ (n : ℕ). drop n (y ∷ ys)) (sym (suc-add (length (up_to x ys)) 1))

-- the first line, and the lines behind its newline
pub lines_first : (t : List ℕ) → 0 < length t → lines_of t ≡ up_to 10 t ∷ lines_of (past 10 t)
unfolding lines_of at_front up_to past
lines_first [] h = absurd (omega arith)
lines_first (y ∷ []) h = go (eqb y 10)
  where
    go : (t : Bool) → cond t ([] ∷ []) ((y ∷ []) ∷ []) ≡ cond t [] (y ∷ []) ∷ lines_of (cond t [] [])
    go true = refl
    go false = refl
lines_first (y ∷ z ∷ zs) h = go (eqb y 10) (lines_first (z ∷ zs) (omega arith))
  where
    go : (t : Bool) → lines_of (z ∷ zs) ≡ up_to 10 (z ∷ zs) ∷ lines_of (past 10 (z ∷ zs))
        → cond t ([] ∷ lines_of (z ∷ zs)) (at_front y (lines_of (z ∷ zs)))
        ≡ cond t [] (y ∷ up_to 10 (z ∷ zs)) ∷ lines_of (cond t (z ∷ zs) (past 10 (z ∷ zs)))
    go true e = refl
    go false e = ap (at_front y) e
