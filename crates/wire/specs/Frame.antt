-- Framing: the prefix byte, the short length, and the exchange of two bytes.
use Rattle.std.specs.Prelude.{ℕ, ◌+◌, ◌-◌, ◌*◌, ◌%◌, ◌/◌, cond, List, ◌∷◌, ◌++◌, length, get_or, set, replicate, eqb, ltb}

-- "swap first and eighth byte"
unfoldable pub swapped : List ℕ → List ℕ
swapped d = set (set d 0 (get_or d 7 0)) 7 (get_or d 0 0)

-- In what follows p is a datagram so exchanged: "the first is then the prefix", and the packet's bytes stand from place 1 on.

-- what stands at place i of p, 0 past its end
abbrev pub byte_at : List ℕ → ℕ → ℕ
byte_at p i = get_or p i 0

-- two and three bytes: "Numbers are little-endian"
abbrev pub word_at : List ℕ → ℕ → ℕ
word_at p i = byte_at p i + 256 * byte_at p (i + 1)

abbrev pub three_at : List ℕ → ℕ → ℕ
three_at p i = word_at p i + 65536 * byte_at p (i + 2)

-- "Bit 0 reserved, bits 1..4 type, bits 5..7 short length S."
abbrev pub reserved_in : ℕ → ℕ
reserved_in prefix = prefix % 2

abbrev pub type_in : ℕ → ℕ
type_in prefix = prefix / 2 % 16

abbrev pub short_in : ℕ → ℕ
short_in prefix = prefix / 32

-- "If S is not 0, drop the last 7 − S bytes, whatever the length."
unfoldable pub dropped_by : ℕ → ℕ
dropped_by prefix = cond (eqb (short_in prefix) 0) 0 (7 - short_in prefix)

-- one past the packet's last byte
unfoldable pub end_of : List ℕ → ℕ
end_of p = length p - dropped_by (byte_at p 0)

-- Written: the prefix before the packet, and the two bytes exchanged.
unfoldable pub framed : ℕ → List ℕ → List ℕ
framed prefix packet = swapped (prefix ∷ packet)

-- "type 0; a dummy is not written"; "A packet under 7 bytes is padded with zeros to 7 and S is its length; otherwise S is 0."
unfoldable pub prefix_for : List ℕ → ℕ
prefix_for packet = cond (ltb (length packet) 7) (32 * length packet) 0

unfoldable pub padded : List ℕ → List ℕ
padded packet = packet ++ replicate (7 - length packet) 0
