-- The range of full numbers, and of the first of each kind.
use Rattle.std.specs.Prelude.{ℕ}

-- "Full numbers run to 4,294,967,295"
abbrev pub highest : ℕ
highest = 4294967295

-- one past the last full number, where base, end, due, a low and a next may stand
abbrev pub past_highest : ℕ
past_highest = 4294967296

-- "Opening gives the first of each, 0 to 65,535"
abbrev pub highest_first : ℕ
highest_first = 65535
