-- What a count over the numbers below a bound tells, and how to show what it is.
use Rattle.std.specs.Prelude.{ℕ, zero, suc, ◌+◌, ◌≤◌, ◌<◌, Bool, true, false, cond, ◌≡◌, refl}
use Rattle.std.proofs.Common.{⊎_elim, sym, ◌∙◌, ap, add-zero, add-suc, add-one, arith}
use Rattle.common.specs.Every.{count_below}
use Rattle.common.specs.Facts.{lt_or_ge, bool, clash, not_so}

-- One number more counts, or does not.
count_yes : (p : ℕ → Bool) (n : ℕ) → p n ≡ true → count_below p (suc n) ≡ suc (count_below p n)
unfolding count_below
count_yes p n t = ap (λ (b : Bool). cond b (suc (count_below p n)) (count_below p n)) t

count_no : (p : ℕ → Bool) (n : ℕ) → p n ≡ false → count_below p (suc n) ≡ count_below p n
unfolding count_below
count_no p n t = ap (λ (b : Bool). cond b (suc (count_below p n)) (count_below p n)) t

count_zero : (p : ℕ → Bool) → count_below p zero ≡ 0
unfolding count_below
count_zero p = refl

-- 1 for a test that passes
abbrev pub one : Bool → ℕ
one b = cond b 1 0

pub count_none : (p : ℕ → Bool) → count_below p 0 ≡ 0
count_none p = count_zero p

count_suc : (p : ℕ → Bool) (n : ℕ) → count_below p (suc n) ≡ count_below p n + one (p n)
unfolding count_below
count_suc p n = ⊎_elim (λ (t : p n ≡ true). rw t (sym (add-one (count_below p n)))) (λ (t : p n ≡ false). rw t (sym (add-zero (count_below p n)))) (bool (p n))

pub count_next : (p : ℕ → Bool) (n : ℕ) → count_below p (n + 1) ≡ count_below p n + one (p n)
count_next p n = ap (count_below p) (add-one n) ∙ count_suc p n

-- More numbers, no smaller a count.
pub count_grows : (p : ℕ → Bool) (n m : ℕ) → count_below p n ≤ count_below p (n + m)
count_grows p n zero = let e : count_below p (n + 0) ≡ count_below p n = ap (count_below p) (add-zero n) in omega arith
count_grows p n (suc m) =
    let k : count_below p n ≤ count_below p (n + m) = count_grows p n m in
    let e : count_below p (n + suc m) ≡ count_below p (n + m) + one (p (n + m)) = ap (count_below p) (add-suc n m) ∙ count_suc p (n + m) in
    omega arith

-- A count above 0 has a number that the test holds for.
pub some_at : (p : ℕ → Bool) (n : ℕ) → 0 < count_below p n → (i : ℕ) × (i < n) × (p i ≡ true)
some_at p zero h = absurd (omega (arith, count_zero p))
some_at p (suc n) h =
    ⊎_elim
    (λ t. (n, omega arith, t))
    (λ t. let (i, l, e) = some_at p n (omega (arith, count_no p n t)) in (i, omega arith, e))
    (bool (p n))

pub some_from : (p : ℕ → Bool) (n i : ℕ) → i < n → p i ≡ true → 0 < count_below p n
some_from p zero i l h = absurd (omega arith)
some_from p (suc n) i l h =
    ⊎_elim
    (λ t. omega (arith, count_yes p n t))
    (λ t. ⊎_elim
    (λ lt. omega (arith, count_no p n t, some_from p n i lt h))
    (λ ge. clash (p i) h (ap p (let e : i ≡ n = omega arith in e) ∙ t))
    (lt_or_ge i n))
    (bool (p n))

-- A count of 0 has none.
none_at : (p : ℕ → Bool) (n : ℕ) → count_below p n ≡ 0 → (i : ℕ) → i < n → p i ≡ false
none_at p n h i l = not_so (p i) (λ t. omega (arith, some_from p n i l t))

none_from : (p : ℕ → Bool) (n : ℕ) → ((i : ℕ) → i < n → p i ≡ false) → count_below p n ≡ 0
none_from p zero h = count_zero p
none_from p (suc n) h = count_no p n (h n (omega arith)) ∙ none_from p n (λ i l. h i (omega arith))

-- A count of 1 has one, and no other.
pub one_only : (p : ℕ → Bool) (n : ℕ) → count_below p n ≡ 1 → (i j : ℕ) → i < n → j < n → p i ≡ true → p j ≡ true → i ≡ j
one_only p zero h i j li lj pi pj = absurd (omega arith)
one_only p (suc n) h i j li lj pi pj =
    ⊎_elim
    (λ t. let z : count_below p n ≡ 0 = omega (arith, count_yes p n t) in last z i li pi ∙ sym (last z j lj pj))
    (λ t. one_only p n (sym (count_no p n t) ∙ h) i j (below t i li pi) (below t j lj pj) pi pj)
    (bool (p n))
  where
    last : count_below p n ≡ 0 → (k : ℕ) → k < suc n → p k ≡ true → k ≡ n
    last z k l t = ⊎_elim (λ lt. clash (p k) t (none_at p n z k lt)) (λ ge. omega arith) (lt_or_ge k n)

    below : p n ≡ false → (k : ℕ) → k < suc n → p k ≡ true → k < n
    below f k l t =
        ⊎_elim (λ lt. lt) (λ ge. clash (p k) t (ap p (let e : k ≡ n = omega arith in e) ∙ f)) (lt_or_ge k n)

pub one_from : (p : ℕ → Bool) (n i : ℕ) → i < n → p i ≡ true → ((j : ℕ) → j < n → p j ≡ true → j ≡ i) → count_below p n ≡ 1
one_from p zero i l h only = absurd (omega arith)
one_from p (suc n) i l h only =
    ⊎_elim
    (λ lt. count_no p n (not_so (p n) (λ t. omega (arith, only n (omega arith) t))) ∙ one_from p n i lt h (λ j lj t. only j (omega arith) t))
    (λ ge. let e : i ≡ n = omega arith in
    let z = none_from p n (λ j lj. not_so (p j) (λ t. omega (arith, only j (omega arith) t))) in
    omega (arith, count_yes p n (ap p (sym e) ∙ h)))
    (lt_or_ge i n)

-- Tests that agree count the same.
pub count_same : (p q : ℕ → Bool) (n : ℕ) → ((i : ℕ) → i < n → p i ≡ q i) → count_below p n ≡ count_below q n
count_same p q zero h = count_zero p ∙ sym (count_zero q)
count_same p q (suc n) h =
    let k : count_below p n ≡ count_below q n = count_same p q n (λ i l. h i (omega arith)) in
    ⊎_elim
    (λ t. count_yes p n t ∙ ap suc k ∙ sym (count_yes q n (sym (h n (omega arith)) ∙ t)))
    (λ t. count_no p n t ∙ k ∙ sym (count_no q n (sym (h n (omega arith)) ∙ t)))
    (bool (p n))

-- Numbers that the test does not hold for may be left out.
pub count_short : (p : ℕ → Bool) (m n : ℕ) → m ≤ n → ((i : ℕ) → m ≤ i → i < n → p i ≡ false) → count_below p n ≡ count_below p m
count_short p m zero l h = ap (count_below p) (let e : 0 ≡ m = omega arith in e)
count_short p m (suc n) l h =
    ⊎_elim
    (λ lt. count_no p n (h n (omega arith) (omega arith)) ∙ count_short p m n (omega arith) (λ i a b. h i a (omega arith)))
    (λ ge. ap (count_below p) (let e : suc n ≡ m = omega arith in e))
    (lt_or_ge m (suc n))
