-- Bytes one by one: looking for one, and comparing two runs of them.
use Prim.Native.Nat.{ℕ, ◌+◌, ◌≤◌, ◌<◌}
use mathlib.Core.Bool.{Bool, true, false, cond, ◌&&◌}
use mathlib.Core.List.{List, [], ◌∷◌}
use mathlib.Core.Path.{◌≡◌, refl, sym, ◌∙◌}
use native.Mathlib.Nat.{add-zero}
use native.Mathlib.Numerals.{add-one}
use native.Mathlib.Omega.{arith}
use borrow.Author.Tests.{eq-eqb, ne_eqb}
use lib.ListN.{length, take, drop, get_or, drop_of_length-le}
use lib.Seq.{drop-cons}
use lib.Dec.{eqb}
use lib.Pointwise.{pointwise}
use Rattle.trace.specs.Lines.{up_to}
use Rattle.trace.specs.Words.{same, starts_with}

eqb_turned : (x y : ℕ) → eqb x y ≡ eqb y x
eqb_turned x y = grind arith

-- x stands at place i, or does not, or no byte does
pub up_to_here : (x : ℕ) (b : List ℕ) (i : ℕ) → i < length b → get_or b i 0 ≡ x → i ≡ i + length (up_to x (drop i b))
unfolding up_to
up_to_here x b i h e = rw (drop-cons b i 0 h, eq-eqb (get_or b i 0) x e) (sym (add-zero i))

pub up_to_skip : (x : ℕ) (b : List ℕ) (i : ℕ) → i < length b → (get_or b i 0 ≡ x → ⊥)
    → i + 1 + length (up_to x (drop (i + 1) b)) ≡ i + length (up_to x (drop i b))
unfolding up_to
up_to_skip x b i h e = rw (drop-cons b i 0 h, ne_eqb (get_or b i 0) x e, add-one i) (omega arith)

pub up_to_none : (x : ℕ) (b : List ℕ) (i : ℕ) → length b ≤ i → i ≡ i + length (up_to x (drop i b))
unfolding up_to
up_to_none x b i h = rw (drop_of_length-le b h) (sym (add-zero i))

same_turned : (a b : List ℕ) → same a b ≡ same b a
unfolding same
same_turned [] [] = refl
same_turned [] (y ∷ ys) = refl
same_turned (x ∷ xs) [] = refl
same_turned (x ∷ xs) (y ∷ ys) = rw (eqb_turned x y, same_turned xs ys) refl

-- the same bytes, as the library's `==` tells them, and as its `starts_with` does
pub same_eq : (a b : List ℕ) → pointwise eqb a b ≡ same a b
unfolding same
same_eq [] [] = refl
same_eq [] (y ∷ ys) = refl
same_eq (x ∷ xs) [] = refl
same_eq (x ∷ xs) (y ∷ ys) = go (eqb x y) (same_eq xs ys)
  where
    go : (t : Bool) → pointwise eqb xs ys ≡ same xs ys → (t && pointwise eqb xs ys) ≡ cond t (same xs ys) false
    go true e = e
    go false e = refl

pub starts_eq : (key l : List ℕ) → pointwise eqb key (take (length key) l) ≡ starts_with key l
unfolding starts_with
starts_eq key l = same_eq key (take (length key) l) ∙ same_turned key (take (length key) l)
