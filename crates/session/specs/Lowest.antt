-- The lowest free place: it is free, unless it is the list's end, and every place below it is in use.
use Rattle.std.specs.Prelude.{ℕ, zero, suc, ◌<◌, ◌≤◌, Bool, true, false, cond, List, [], ◌∷◌, ◌≡◌, refl, length, get_or}
use Rattle.std.proofs.Common.{zero-le, suc-le-suc, not-suc-le-zero, le_of_suc-le-suc, sym, subst, eqb-true}
use Rattle.session.specs.declared.Session.{Session}
use Rattle.session.specs.Place.{blank, blank_token, free_of}
use Rattle.session.specs.List.{lowest_of}

next_within : (free : Bool) (m i : ℕ) → m ≤ i → cond free 0 (suc m) ≤ suc i
next_within true m i h = zero-le
next_within false m i h = suc-le-suc h

next_above : (free : Bool) (m i : ℕ) → suc i ≤ cond free 0 (suc m) → (i ≤ m → suc i ≤ m) → suc (suc i) ≤ cond free 0 (suc m)
next_above true m i h k = absurd (not-suc-le-zero h)
next_above false m i h k = suc-le-suc (k (le_of_suc-le-suc h))

-- it is not past the end
pub lowest_within : (l : List Session) → lowest_of l ≤ length l
lowest_within [] = zero-le
lowest_within (x ∷ xs) = next_within (free_of x) (lowest_of xs) (length xs) (lowest_within xs)

-- it is not above a free place
pub lowest_found : (l : List Session) (i : ℕ) (d : Session) → i < length l → free_of (get_or l i d) ≡ true → lowest_of l ≤ i
lowest_found [] i d h e = zero-le
lowest_found (x ∷ xs) zero d h e = subst (λ (b : Bool). cond b 0 (suc (lowest_of xs)) ≤ 0) (sym e) zero-le
lowest_found (x ∷ xs) (suc i) d h e = next_within (free_of x) (lowest_of xs) i (lowest_found xs i d (le_of_suc-le-suc h) e)

-- it is not a place in use
pub lowest_above : (l : List Session) (i : ℕ) (d : Session) → i < length l → free_of (get_or l i d) ≡ false → i ≤ lowest_of l → suc i ≤ lowest_of l
lowest_above [] i d h e k = absurd (not-suc-le-zero h)
lowest_above (x ∷ xs) zero d h e k = subst (λ (b : Bool). 1 ≤ cond b 0 (suc (lowest_of xs))) (sym e) (suc-le-suc zero-le)
lowest_above (x ∷ xs) (suc i) d h e k = next_above (free_of x) (lowest_of xs) i k (lowest_above xs i d (le_of_suc-le-suc h) e)

-- what stands there has no owner
pub lowest_free : (l : List Session) → (get_or l (lowest_of l) blank).token ≡ 0
lowest_free [] = blank_token
lowest_free (x ∷ xs) = go (free_of x) refl (lowest_free xs)
  where
    go : (b : Bool) → free_of x ≡ b → (get_or xs (lowest_of xs) blank).token ≡ 0 → (get_or (x ∷ xs) (cond b 0 (suc (lowest_of xs))) blank).token ≡ 0
    go true e q = eqb-true x.token 0 e
    go false e q = q
