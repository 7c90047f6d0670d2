-- Laws of words: which bytes are the same, and how long a line is that is accepted.
use Rattle.std.specs.Prelude.{ℕ, ◌-◌, ◌≤◌, ◌<◌, Bool, true, false, cond, List, [], ◌∷◌, ◌≡◌, refl, length, take, drop, eqb, None, Some}
use Rattle.std.proofs.Common.{⊎_elim, sym, ◌∙◌, ap, arith, eq-eqb, eqb-true, length-take, length-drop, take_all}
use Rattle.common.specs.Facts.{lt_or_ge, bool, clash, not_so}
use Rattle.common.specs.Order.{first_skip, first_none}
use Rattle.text.specs.Ascii.{ascii}
use Rattle.trace.specs.Words.{same, starts_with}
use Rattle.trace.specs.Numbers.{number_under}
use Rattle.trace.specs.Kinds.{kind_of}

pub same_refl : (a : List ℕ) → same a a ≡ true
unfolding same
same_refl [] = refl
same_refl (x ∷ xs) = rw (eq-eqb x x refl) (same_refl xs)

same_true : (a b : List ℕ) → same a b ≡ true → a ≡ b
unfolding same
same_true [] [] h = refl
same_true [] (y ∷ ys) h = clash false h refl
same_true (x ∷ xs) [] h = clash false h refl
same_true (x ∷ xs) (y ∷ ys) h = go (eqb x y) refl h (λ t. same_true xs ys t)
  where
    go : (t : Bool) → eqb x y ≡ t → cond t (same xs ys) false ≡ true → (same xs ys ≡ true → xs ≡ ys) → x ∷ xs ≡ y ∷ ys
    go true e q rest = let a = eqb-true x y e in let b = rest q in cc
    go false e q rest = clash false q refl

pub same_length : (a b : List ℕ) → same a b ≡ true → length a ≡ length b
same_length a b h = ap length (same_true a b h)

-- the part of a line from place n to its end
pub to_end : (n : ℕ) (l : List ℕ) → take (length l - n) (drop n l) ≡ drop n l
to_end n l = take_all (length l - n) (drop n l) (omega (arith, length-drop n l))

-- a line is as long as the key that it starts with
pub starts_length : (key l : List ℕ) → starts_with key l ≡ true → length key ≤ length l
unfolding starts_with
starts_length key l h = omega (arith, length-take (length key) l, same_length (take (length key) l) key h)

pub number_under_long : (key l : List ℕ) (n : ℕ) → number_under key l ≡ Some n → length key ≤ length l
unfolding number_under
number_under_long key l n h =
    ⊎_elim
    (λ t. starts_length key l t)
    (λ (f : starts_with key l ≡ false). let b : None ≡ Some n = rw f at h in let z : ◌≡◌ {A = ℕ} 0 1 = cc in absurd (omega arith))
    (bool (starts_with key l))

-- a line that names a kind has the five bytes of `kind=`
kind_short : (l : List ℕ) → length l < 5 → 0 ≡ kind_of l
unfolding kind_of
kind_short l h =
    let no : (w : List ℕ) → 5 ≤ length w → same l w ≡ false = λ w g. not_so (same l w) (λ t. omega (arith, same_length l w t)) in
    first_none
    ∙ first_skip _ _ _ (no (ascii "kind=ack") (omega arith))
    ∙ first_skip _ _ _ (no (ascii "kind=sweep") (omega arith))
    ∙ first_skip _ _ _ (no (ascii "kind=take") (omega arith))
    ∙ first_skip _ _ _ (no (ascii "kind=resend") (omega arith))
    ∙ first_skip _ _ _ (no (ascii "kind=send") (omega arith))
    ∙ first_skip _ _ _ (no (ascii "kind=in") (omega arith))

pub kind_of_long : (l : List ℕ) → (kind_of l ≡ 0 → ⊥) → 5 ≤ length l
kind_of_long l h = ⊎_elim (λ lt. absurd (h (sym (kind_short l lt)))) (λ ge. ge) (lt_or_ge (length l) 5)
