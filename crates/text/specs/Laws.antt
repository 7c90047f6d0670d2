-- Laws of numbers in decimal: the digits by one step, how many there are, what they are, and that their value is the number.
use Rattle.std.specs.Prelude.{ℕ, zero, suc, ◌+◌, ◌*◌, ◌-◌, ◌%◌, ◌/◌, ◌^◌, ◌≤◌, ◌<◌, Bool, true, false, List, [], ◌∷◌, ◌++◌, ◌≡◌, refl, ltb, length, get_or}
use Rattle.std.proofs.Common.{sym, ◌∙◌, ap, arith, pow-suc, ltb-true, ltb-false, lt-ltb, le-ltb, length-append}
use Rattle.std.proofs.Math.ListN.{get_or-append}
use Rattle.text.specs.Decimal.{digits_by, decimal_of, value_from, value_of, Digits, nil, digit}

-- what holds below 10, and of a number if of its tenth, holds of all numbers
module _ (P : ℕ → Type 0) (small : (n : ℕ) → n < 10 → P n) (step : (n : ℕ) → 10 ≤ n → P (n / 10) → P n) where
  by_test : (n : ℕ) (b : Bool) → ltb n 10 ≡ b → (10 ≤ n → P (n / 10)) → P n
  by_test n true e p = small n (ltb-true n 10 e)
  by_test n false e p = let h = ltb-false n 10 e in step n h (p h)

  by_fuel : (k n : ℕ) → n < k → P n
  by_fuel zero n h = absurd (omega arith)
  by_fuel (suc k) n h = by_test n (ltb n 10) refl (λ m. by_fuel k (n / 10) (omega arith))

  by_digits : (n : ℕ) → P n
  by_digits n = by_fuel (suc n) n (omega arith)

-- one step, for any fuel
digits_small : (k n : ℕ) → n < 10 → digits_by (suc k) n ≡ (48 + n) ∷ []
unfolding digits_by
digits_small k n h = rw (lt-ltb n 10 h) refl

digits_more : (k n : ℕ) → 10 ≤ n → digits_by (suc k) n ≡ digits_by k (n / 10) ++ ((48 + n % 10) ∷ [])
unfolding digits_by
digits_more k n h = rw (le-ltb n 10 h) refl

-- any fuel above the number gives the same digits
abbrev Enough : ℕ → Type 0
Enough n = (k j : ℕ) → n < k → n < j → digits_by k n ≡ digits_by j n

enough_small : (n : ℕ) → n < 10 → Enough n
enough_small n m zero j h g = absurd (omega arith)
enough_small n m (suc k) zero h g = absurd (omega arith)
enough_small n m (suc k) (suc j) h g = digits_small k n m ∙ sym (digits_small j n m)

enough_more : (n : ℕ) → 10 ≤ n → Enough (n / 10) → Enough n
enough_more n m p zero j h g = absurd (omega arith)
enough_more n m p (suc k) zero h g = absurd (omega arith)
enough_more n m p (suc k) (suc j) h g =
    digits_more k n m
    ∙ ap (λ (ds : List ℕ). ds ++ ((48 + n % 10) ∷ [])) (p k j (omega arith) (omega arith))
    ∙ sym (digits_more j n m)

digits_enough : (n k j : ℕ) → n < k → n < j → digits_by k n ≡ digits_by j n
digits_enough = by_digits Enough enough_small enough_more

-- one step of the number's digits
pub decimal_small : (n : ℕ) → n < 10 → decimal_of n ≡ (48 + n) ∷ []
unfolding decimal_of
decimal_small n h = digits_small n n h

pub decimal_more : (n : ℕ) → 10 ≤ n → decimal_of n ≡ decimal_of (n / 10) ++ ((48 + n % 10) ∷ [])
unfolding decimal_of
decimal_more n h =
    digits_more n n h
    ∙ ap (λ (ds : List ℕ). ds ++ ((48 + n % 10) ∷ [])) (digits_enough (n / 10) n (suc (n / 10)) (omega arith) (omega arith))

-- how many digits, by one step
pub decimal_longer : (n : ℕ) → 10 ≤ n → length (decimal_of n) ≡ length (decimal_of (n / 10)) + 1
decimal_longer n h = ap length (decimal_more n h) ∙ length-append (decimal_of (n / 10)) ((48 + n % 10) ∷ [])

pub decimal_single : (n : ℕ) → n < 10 → length (decimal_of n) ≡ 1
decimal_single n h = ap length (decimal_small n h)

-- there is a digit
abbrev Some : ℕ → Type 0
Some n = 1 ≤ length (decimal_of n)

pub decimal_some : (n : ℕ) → 1 ≤ length (decimal_of n)
decimal_some = by_digits Some (λ n h. omega (arith, decimal_single n h)) (λ n h p. omega (arith, decimal_longer n h))

-- a number below the power k of 10 has at most k digits
abbrev Fits : ℕ → Type 0
Fits n = (k : ℕ) → n < 10 ^ k → 0 < k → length (decimal_of n) ≤ k

fits_more : (n : ℕ) → 10 ≤ n → Fits (n / 10) → Fits n
fits_more n m p zero h g = absurd (omega arith)
fits_more n m p (suc zero) h g = absurd (omega arith)
fits_more n m p (suc (suc k)) h g =
    let a : n < 10 ^ suc k * 10 = rw (← pow-suc 10 (suc k)) h in
    omega (arith, p (suc k) (omega arith) (omega arith), decimal_longer n m)

pub decimal_length : (k n : ℕ) → n < 10 ^ k → 0 < k → length (decimal_of n) ≤ k
decimal_length k n = by_digits Fits (λ n h k g s. omega (arith, decimal_single n h)) fits_more n k

-- the value of digits and one more digit
value_snoc : (v : ℕ) (ds : List ℕ) (d : ℕ) → value_from v (ds ++ (d ∷ [])) ≡ value_from v ds * 10 + (d - 48)
unfolding value_from
value_snoc v [] d = refl
value_snoc v (x ∷ ds) d = value_snoc (v * 10 + (x - 48)) ds d

-- the digits' value is the number
abbrev Valued : ℕ → Type 0
Valued n = value_from 0 (decimal_of n) ≡ n

value_small : (n : ℕ) → n < 10 → Valued n
unfolding value_from
value_small n h = ap (value_from 0) (decimal_small n h) ∙ omega arith

value_more : (n : ℕ) → 10 ≤ n → Valued (n / 10) → Valued n
value_more n h p =
    ap (value_from 0) (decimal_more n h) ∙ value_snoc 0 (decimal_of (n / 10)) (48 + n % 10) ∙ rw p (omega arith)

pub decimal_value : (n : ℕ) → value_of (decimal_of n) ≡ n
unfolding value_of
decimal_value = by_digits Valued value_small value_more

-- every byte is a digit
digits_snoc : {ds : List ℕ} (d : ℕ) → Digits ds → 48 ≤ d → d ≤ 57 → Digits (ds ++ (d ∷ []))
digits_snoc d nil l u = digit l u nil
digits_snoc d (digit a b p) l u = digit a b (digits_snoc d p l u)

abbrev AllDigits : ℕ → Type 0
AllDigits n = Digits (decimal_of n)

pub decimal_digits : (n : ℕ) → Digits (decimal_of n)
decimal_digits =
    by_digits AllDigits
    (λ n h. rw (decimal_small n h) (digit {d = 48 + n} (omega arith) (omega arith) nil))
    (λ n h p. rw (decimal_more n h) (digits_snoc (48 + n % 10) p (omega arith) (omega arith)))

digits_at : {ds : List ℕ} → Digits ds → (i : ℕ) → i < length ds → (48 ≤ get_or ds i 0) × (get_or ds i 0 ≤ 57)
digits_at nil i h = absurd (omega arith)
digits_at (digit a b p) zero h = (a, b)
digits_at (digit a b p) (suc i) h = digits_at p i (omega arith)

-- the first digit of a number that is not 0 is not `0`
abbrev Leads : ℕ → Type 0
Leads n = 0 < n → 49 ≤ get_or (decimal_of n) 0 0

leads_more : (n : ℕ) → 10 ≤ n → Leads (n / 10) → Leads n
leads_more n h p z =
    omega (
      arith,
      p (omega arith),
      ap (λ (ds : List ℕ). get_or ds 0 0) (decimal_more n h),
      get_or-append (decimal_of (n / 10)) ((48 + n % 10) ∷ []) 0 0 (decimal_some (n / 10)),
    )

decimal_leads : (n : ℕ) → 0 < n → 49 ≤ get_or (decimal_of n) 0 0
decimal_leads = by_digits Leads (λ n h z. rw (decimal_small n h) (omega arith)) leads_more

-- so `0` comes first only where it is the only digit
pub decimal_first : (n : ℕ) → get_or (decimal_of n) 0 0 ≡ 48 → n < 10
decimal_first zero e = omega arith
decimal_first (suc n) e = absurd (omega (arith, decimal_leads (suc n) (omega arith)))
