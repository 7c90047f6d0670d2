-- What tests that all pass tell, and how to show that they do.
use Rattle.std.specs.Prelude.{ℕ, zero, suc, ◌+◌, ◌<◌, Bool, true, false, cond, not, ◌||◌, List, [], ◌∷◌, ◌++◌, ◌≡◌, refl, get_or}
use Rattle.std.proofs.Common.{⊎_elim, sym, ◌∙◌, ap, add-one, arith}
use Rattle.common.specs.Every.{every, all_below, implies}
use Rattle.common.specs.Facts.{lt_or_ge, clash, not_so, same_bool}

-- the tests of a list, one by one
abbrev pub AllTrue : List Bool → Type 0
AllTrue [] = Unit {0}
AllTrue (b ∷ bs) = (b ≡ true) × AllTrue bs

pub every_all : (bs : List Bool) → every bs ≡ true → AllTrue bs
unfolding every
every_all [] h = tt
every_all (true ∷ bs) h = (refl, every_all bs h)
every_all (false ∷ bs) h = clash false h refl

pub all_every : (bs : List Bool) → AllTrue bs → every bs ≡ true
unfolding every
all_every [] h = refl
all_every (true ∷ bs) h = all_every bs h.1
all_every (false ∷ bs) h = h.0

-- one test after the other
pub every_at : (bs : List Bool) → every bs ≡ true → (i : ℕ) → get_or bs i true ≡ true
unfolding every
every_at [] h i = refl
every_at (true ∷ bs) h zero = refl
every_at (false ∷ bs) h zero = h
every_at (true ∷ bs) h (suc i) = every_at bs h i
every_at (false ∷ bs) h (suc i) = clash false h refl

pub every_fails : (bs : List Bool) (i : ℕ) → get_or bs i true ≡ false → false ≡ every bs
unfolding every
every_fails [] i h = clash true refl h
every_fails (b ∷ bs) zero h = rw h refl
every_fails (true ∷ bs) (suc i) h = every_fails bs i h
every_fails (false ∷ bs) (suc i) h = refl

pub every_skip : (b : Bool) (bs : List Bool) → b ≡ true → every bs ≡ every (b ∷ bs)
unfolding every
every_skip b bs h = rw h refl

pub every_first : (b : Bool) (bs : List Bool) → b ≡ true → every (b ∷ bs) ≡ every bs
every_first b bs h = sym (every_skip b bs h)

pub every_one : (b : Bool) (bs : List Bool) → every bs ≡ true → b ≡ every (b ∷ bs)
unfolding every
every_one true bs h = sym h
every_one false bs h = refl

pub every_last : (b : Bool) → b ≡ every (b ∷ [])
unfolding every
every_last b = every_one b [] refl

pub every_none : every [] ≡ true
unfolding every
every_none = refl

pub every_made : (b : Bool) (bs : List Bool) → b ≡ true → every bs ≡ true → every (b ∷ bs) ≡ true
unfolding every
every_made b bs h t = rw (h, t) refl

-- some tests before others
pub every_front : (xs bs : List Bool) → false ≡ every xs → false ≡ every (xs ++ bs)
unfolding every
every_front [] bs h = clash true refl (sym h)
every_front (true ∷ xs) bs h = every_front xs bs h
every_front (false ∷ xs) bs h = refl

pub every_back : (xs bs : List Bool) → every xs ≡ true → every bs ≡ every (xs ++ bs)
unfolding every
every_back [] bs h = refl
every_back (true ∷ xs) bs h = every_back xs bs h
every_back (false ∷ xs) bs h = clash false h refl

-- a test for every number below n
pub all_at : (p : ℕ → Bool) (n : ℕ) → all_below p n ≡ true → (i : ℕ) → i < n → p i ≡ true
unfolding all_below
all_at p zero h i l = absurd (omega arith)
all_at p (suc n) h i l = go (p n) refl h (λ below lt. all_at p n below i lt)
  where
    go : (b : Bool) → p n ≡ b → cond b (all_below p n) false ≡ true → (all_below p n ≡ true → i < n → p i ≡ true) → p i ≡ true
    go true t q rec = ⊎_elim (λ lt. rec q lt) (λ ge. ap p (let e : i ≡ n = omega arith in e) ∙ t) (lt_or_ge i n)
    go false t q rec = clash false q refl

pub all_from : (p : ℕ → Bool) (n : ℕ) → ((i : ℕ) → i < n → p i ≡ true) → all_below p n ≡ true
unfolding all_below
all_from p zero h = refl
all_from p (suc n) h = ap (λ (b : Bool). cond b (all_below p n) false) (h n (omega arith)) ∙ all_from p n (λ i l. h i (omega arith))

pub all_none : (p : ℕ → Bool) → all_below p 0 ≡ true
unfolding all_below
all_none p = refl

pub all_more : (p : ℕ → Bool) (n : ℕ) → all_below p n ≡ true → p n ≡ true → all_below p (n + 1) ≡ true
unfolding all_below
all_more p n h t = rw (add-one n, t) h

pub all_fails : (p : ℕ → Bool) (n i : ℕ) → i < n → p i ≡ false → false ≡ all_below p n
all_fails p n i l h = sym (not_so (all_below p n) (λ t. clash (p i) (all_at p n t i l) h))

-- two tests for every number below n
pub all_both : (p q : ℕ → Bool) (n : ℕ) → all_below (λ j. every (p j ∷ q j ∷ [])) n ≡ every (all_below p n ∷ all_below q n ∷ [])
all_both p q n =
    same_bool _ _
    (λ t. every_made _ _ (all_from p n λ i l. every_at (p i ∷ q i ∷ []) (all_at _ n t i l) 0)
    (every_made _ _ (all_from q n λ i l. every_at (p i ∷ q i ∷ []) (all_at _ n t i l) 1) every_none))
    (λ t. all_from _ n λ i l.
    every_made _ _ (all_at p n (every_at (all_below p n ∷ all_below q n ∷ []) t 0) i l)
    (every_made _ _ (all_at q n (every_at (all_below p n ∷ all_below q n ∷ []) t 1) i l) every_none))

-- a flag that is raised where a test fails, and stays: raised before, or by one of the first n tests
unfoldable pub raised : Bool → (ℕ → Bool) → ℕ → Bool
raised before p n = before || not (all_below p n)

pub raised_none : (before : Bool) (p : ℕ → Bool) → before ≡ raised before p 0
unfolding raised all_below
raised_none true p = refl
raised_none false p = refl

pub raised_more : (before : Bool) (p : ℕ → Bool) (n : ℕ) (flag fails : Bool) → flag ≡ raised before p n → fails ≡ not (p n)
    → (flag || fails) ≡ raised before p (n + 1)
unfolding raised all_below
raised_more before p n flag fails e f = rw (add-one n, e, f) (go before (all_below p n) (p n))
  where
    go : (x y z : Bool) → ((x || not y) || not z) ≡ (x || not (cond z y false))
    go true y z = refl
    go false true true = refl
    go false true false = refl
    go false false true = refl
    go false false false = refl

-- one loop, and two with one flag
pub raised_once : (p : ℕ → Bool) (n i : ℕ) (flag : Bool) → i ≡ n → flag ≡ raised false p i → flag ≡ not (all_below p n)
unfolding raised
raised_once p n i flag a e = rw (e, a) refl

pub raised_twice : (p q : ℕ → Bool) (n m i j : ℕ) (first flag : Bool) → i ≡ n → j ≡ m → first ≡ raised false p i → flag ≡ raised first q j
    → flag ≡ not (every (all_below p n ∷ all_below q m ∷ []))
unfolding raised every
raised_twice p q n m i j first flag a b e f = rw (f, e, a, b) (go (all_below p n) (all_below q m))
  where
    go : (x y : Bool) → (not x || not y) ≡ not (cond x (cond y true false) false)
    go true true = refl
    go true false = refl
    go false y = refl

-- a test that is asked for only where another passes
pub implied : (a b : Bool) → implies a b ≡ true → a ≡ true → b ≡ true
unfolding implies
implied a b h t = sym (ap (λ (x : Bool). cond x b true) t) ∙ h

pub imply : (a b : Bool) → (a ≡ true → b ≡ true) → implies a b ≡ true
unfolding implies
imply true b f = f refl
imply false b f = refl

pub implies_if : (a b : Bool) → a ≡ true → b ≡ implies a b
unfolding implies
implies_if a b h = rw h refl

pub implies_else : (a b : Bool) → a ≡ false → true ≡ implies a b
unfolding implies
implies_else a b h = rw h refl
