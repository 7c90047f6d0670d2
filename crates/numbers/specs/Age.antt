-- The age of a tick (document 01, "Sender"): "The tick runs free; age is now minus sent, modulo 4,294,967,296, and an age of
-- 2,147,483,648 or more counts as 0."
use Rattle.std.specs.Prelude.{ℕ, ◌+◌, ◌-◌, ◌%◌, Bool, cond, nat_le, nat_lt}

abbrev pub since_of : ℕ → ℕ → ℕ
since_of now sent = (now + 4294967296 - sent) % 4294967296

unfoldable pub age_of : ℕ → ℕ → ℕ
age_of now sent = cond (nat_lt (since_of now sent) 2147483648) (since_of now sent) 0

-- "its age reaches the timeout"
abbrev pub reaches : ℕ → ℕ → ℕ → Bool
reaches timeout now sent = nat_le timeout (age_of now sent)
