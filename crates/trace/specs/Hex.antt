-- Bytes in lower-case hex, two digits to a byte.
use Rattle.std.specs.Prelude.{ℕ, ◌+◌, ◌*◌, ◌-◌, ◌/◌, ◌%◌, Bool, true, false, cond, List, [], ◌∷◌, length, eqb, ltb, leb}

-- a byte from `0` to `9` or from `a` to `f`
unfoldable pub is_hex : ℕ → Bool
is_hex b = cond (ltb b 48) false (cond (leb b 57) true (cond (ltb b 97) false (leb b 102)))

-- its value; 0 for any other byte
unfoldable pub hex_value : ℕ → ℕ
hex_value b = cond (ltb b 48) 0 (cond (leb b 57) (b - 48) (cond (ltb b 97) 0 (cond (leb b 102) (b - 87) 0)))

unfoldable pub all_hex : List ℕ → Bool
all_hex [] = true
all_hex (b ∷ bs) = cond (is_hex b) (all_hex bs) false

unfoldable pub hex_good : List ℕ → Bool
hex_good t = cond (all_hex t) (eqb (length t % 2) 0) false

-- the bytes that a text of hex digits is
unfoldable pub hex_bytes : List ℕ → List ℕ
hex_bytes [] = []
hex_bytes (a ∷ []) = []
hex_bytes (a ∷ b ∷ t) = (hex_value a * 16 + hex_value b) ∷ hex_bytes t

-- the digit of a value below 16
unfoldable pub hex_digit : ℕ → ℕ
hex_digit v = cond (ltb v 10) (48 + v) (87 + v)

-- bytes as text
unfoldable pub hex_text : List ℕ → List ℕ
hex_text [] = []
hex_text (b ∷ bs) = hex_digit (b / 16) ∷ hex_digit (b % 16) ∷ hex_text bs
