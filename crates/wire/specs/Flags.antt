-- The header: "flags in bits 0..11, LogWindowSize in 12..15. Flags: ACK 0x001, DATA 0x004, ACKVEC 0x008, AOA 0x010,
-- OVERHEADSIZE 0x040, DELAYACKINFO 0x100."
use Rattle.std.specs.Prelude.{ℕ, ◌+◌, ◌*◌, ◌%◌, ◌/◌, ◌^◌, Bool, true, false, cond, not, eqb}

-- is bit k of the flags set?
abbrev pub flag_in : ℕ → ℕ → Bool
flag_in k flags = eqb (flags / 2 ^ k % 2) 1

abbrev pub ack_in : ℕ → Bool
ack_in = flag_in 0

abbrev pub data_in : ℕ → Bool
data_in = flag_in 2

abbrev pub vector_in : ℕ → Bool
vector_in = flag_in 3

abbrev pub aoa_in : ℕ → Bool
aoa_in = flag_in 4

abbrev pub overhead_in : ℕ → Bool
overhead_in = flag_in 6

abbrev pub delay_in : ℕ → Bool
delay_in = flag_in 8

-- the six flags of these, and no other
unfoldable pub six_of : ℕ → ℕ
six_of flags =
    flags % 2 + 4 * (flags / 4 % 2) + 8 * (flags / 8 % 2) + 16 * (flags / 16 % 2) + 64 * (flags / 64 % 2)
    + 256 * (flags / 256 % 2)

-- "a flag outside the six": the six are not all there is
unfoldable pub outside : ℕ → Bool
outside flags = not (eqb flags (six_of flags))

abbrev pub both : Bool → Bool → Bool
both a b = cond a b false

abbrev pub either : Bool → Bool → Bool
either a b = cond a true b
