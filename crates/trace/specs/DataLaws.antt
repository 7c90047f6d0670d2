-- Laws of bytes as hex: how many digits and bytes there are; and of the line `data=`: how long it is, and its answer at each way out.
use Rattle.std.specs.Prelude.{ℕ, ◌+◌, ◌-◌, ◌/◌, ◌≤◌, ◌<◌, true, false, not, List, [], ◌∷◌, ◌≡◌, refl, length, drop}
use Rattle.std.proofs.Common.{◌∙◌, ap, arith, lt-ltb, le-ltb, length-drop}
use Rattle.common.specs.EveryLaws.{every_at}
use Rattle.common.specs.Order.{first_here, first_skip, first_none}
use Rattle.text.specs.Ascii.{ascii}
use Rattle.trace.specs.Hex.{hex_bytes, hex_text}
use Rattle.trace.specs.Read.{data_good, data_bytes, data_answer}
use Rattle.trace.specs.WordsLaws.{starts_length}

pub bytes_length : (t : List ℕ) → length (hex_bytes t) ≡ length t / 2
unfolding hex_bytes
bytes_length [] = refl
bytes_length (a ∷ []) = refl
bytes_length (a ∷ b ∷ t) = omega (arith, bytes_length t)

pub hex_length : (bs : List ℕ) → length (hex_text bs) ≡ length bs + length bs
unfolding hex_text
hex_length [] = refl
hex_length (b ∷ bs) = omega (arith, hex_length bs)

pub data_long : (kind : ℕ) (l : List ℕ) → data_good kind l ≡ true → 5 ≤ length l
unfolding data_good
data_long kind l g = starts_length (ascii "data=") l (every_at _ g 0)

pub data_length : (l : List ℕ) → length (data_bytes l) ≡ (length l - 5) / 2
unfolding data_bytes
data_length l = bytes_length (drop 5 l) ∙ ap (λ (n : ℕ). n / 2) (length-drop 5 l)

pub data_bad : (kind : ℕ) (l : List ℕ) (room : ℕ) → data_good kind l ≡ false → 16 ≡ data_answer kind l room
unfolding data_answer
data_bad kind l room g = first_here _ _ _ (ap not g)

pub data_short : (kind : ℕ) (l : List ℕ) (room : ℕ) → data_good kind l ≡ true → room < (length l - 5) / 2 → 14 ≡ data_answer kind l room
unfolding data_answer
data_short kind l room g h = first_here _ _ _ (lt-ltb room (length (data_bytes l)) (omega (arith, data_length l))) ∙ first_skip _ _ _ (ap not g)

pub data_fits : (kind : ℕ) (l : List ℕ) (room : ℕ) → data_good kind l ≡ true → (length l - 5) / 2 ≤ room → 0 ≡ data_answer kind l room
unfolding data_answer
data_fits kind l room g h = first_none ∙ first_skip _ _ _ (le-ltb room (length (data_bytes l)) (omega (arith, data_length l))) ∙ first_skip _ _ _ (ap not g)
