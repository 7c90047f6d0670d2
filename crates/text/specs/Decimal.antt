-- A number in decimal, without leading zeros, and the value of decimal digits.
use Rattle.std.specs.Prelude.{ℕ, zero, suc, ◌+◌, ◌*◌, ◌-◌, ◌%◌, ◌/◌, ◌≤◌, Bool, true, false, List, [], ◌∷◌, ◌++◌, ltb}

-- a if the test holds, and else what b gives; b waits for a `tt`, so that nothing is computed past the most significant digit
abbrev pub or_else : Bool → List ℕ → (Unit {0} → List ℕ) → List ℕ
or_else true a b = a
or_else false a b = b tt

-- the digits of n, the most significant first, 48 being `0`; at most k of them
unfoldable pub digits_by : ℕ → ℕ → List ℕ
digits_by zero n = []
digits_by (suc k) n = or_else (ltb n 10) ((48 + n) ∷ []) (λ _. digits_by k (n / 10) ++ ((48 + n % 10) ∷ []))

-- a number has no more digits than one more than itself
unfoldable pub decimal_of : ℕ → List ℕ
decimal_of n = digits_by (suc n) n

-- the value of digits that follow others of value v
unfoldable pub value_from : ℕ → List ℕ → ℕ
value_from v [] = v
value_from v (d ∷ ds) = value_from (v * 10 + (d - 48)) ds

-- the value of decimal digits, the most significant first
unfoldable pub value_of : List ℕ → ℕ
value_of ds = value_from 0 ds

-- every byte is from `0` to `9`
pub data Digits : List ℕ → Type 0 where
  nil : Digits []
  digit : {d : ℕ} {ds : List ℕ} → 48 ≤ d → d ≤ 57 → Digits ds → Digits (d ∷ ds)
