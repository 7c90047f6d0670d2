-- Laws of the line `data=`: hex digits one by one, and bytes of two digits each.
use Prim.Native.Nat.{ℕ, zero, suc, ◌+◌, ◌*◌, ◌-◌, ◌%◌, ◌/◌, ◌≤◌, ◌<◌}
use mathlib.Core.Bool.{Bool, true, false, cond}
use mathlib.Core.List.{List, [], ◌∷◌}
use mathlib.Core.Path.{◌≡◌, refl, sym, ◌∙◌, ap}
use native.Mathlib.Numerals.{add-one}
use native.Mathlib.Omega.{arith}
use lib.Dec.{eqb}
use lib.ListN.{length, take, drop, set, get_or, drop_of_length-le}
use lib.Seq.{drop-cons, paste, paste-suc, take-length}
use Rattle.common.specs.Choice.{when, unless}
use Rattle.common.specs.Every.{every}
use Rattle.common.specs.EveryLaws.{every_fails}
use Rattle.text.specs.Ascii.{ascii}
use Rattle.common.specs.Laid.{Laid}
use Rattle.common.specs.Put.{put_of}
use Rattle.trace.specs.Hex.{is_hex, hex_value, all_hex, hex_good, hex_bytes}
use Rattle.trace.specs.Kinds.{carries}
use Rattle.trace.specs.Words.{starts_with}
use Rattle.trace.specs.Read.{data_good, data_bytes}
use Rattle.trace.specs.WordsLaws.{to_end}
use Rattle.trace.specs.DataLaws.{bytes_length, data_length}

-- one digit passed
pub hex_next : (t : List ℕ) (i : ℕ) → i < length t → is_hex (get_or t i 0) ≡ true → all_hex (drop i t) ≡ all_hex t → all_hex (drop (i + 1) t) ≡ all_hex t
unfolding all_hex
hex_next t i h d e = rw add-one (sym (ap all_hex (drop-cons t i 0 h) ∙ rw d refl) ∙ e)

-- a byte that is none
pub hex_bad : (t : List ℕ) (i : ℕ) → i < length t → is_hex (get_or t i 0) ≡ false → all_hex (drop i t) ≡ all_hex t → false ≡ hex_good t
unfolding all_hex hex_good
hex_bad t i h d e = unless _ _ _ _ (sym e ∙ ap all_hex (drop-cons t i 0 h) ∙ rw d refl) refl

-- all digits passed
pub hex_done : (t : List ℕ) (i : ℕ) → length t ≤ i → all_hex (drop i t) ≡ all_hex t → eqb (length t % 2) 0 ≡ hex_good t
unfolding all_hex hex_good
hex_done t i h e = when _ _ _ _ (sym e ∙ ap all_hex (drop_of_length-le t h)) refl

-- each of the bytes
byte_at_lem : (t : List ℕ) (i : ℕ) → i + i + 1 < length t
    → get_or (hex_bytes t) i 0 ≡ hex_value (get_or t (i + i) 0) * 16 + hex_value (get_or t (i + i + 1) 0)
unfolding hex_bytes
byte_at_lem [] i h = absurd (omega arith)
byte_at_lem (a ∷ []) i h = absurd (omega arith)
byte_at_lem (a ∷ b ∷ t) zero h = refl
byte_at_lem (a ∷ b ∷ t) (suc i) h =
    let e : suc i + suc i ≡ suc (suc (i + i)) = omega arith in
    let f : suc (suc (i + i)) + 1 ≡ suc (suc (i + i + 1)) = omega arith in
    rw (e, f) (byte_at_lem t i (omega arith))

-- one more byte stored, and all of them
pub decode_more : (t d : List ℕ) (i : ℕ) {e : List ℕ} {x y : ℕ} → i < length t / 2 → length t / 2 ≤ length d → e ≡ paste d 0 (hex_bytes t) i
    → x ≡ hex_value (get_or t (i + i) 0) → y ≡ hex_value (get_or t (i + i + 1) 0) → set e i (x * 16 + y) ≡ paste d 0 (hex_bytes t) (i + 1)
decode_more t d i {e} {x} {y} h r p q s =
    let n = bytes_length t in
    let z : 0 + i ≡ i = omega arith in
    let v : x * 16 + y ≡ get_or (hex_bytes t) i 0 = rw (q, s) (sym (byte_at_lem t i (omega arith))) in
    ap (λ (k : ℕ). set e k (x * 16 + y)) (sym z) ∙ rw (p, v, add-one) (paste-suc d 0 (hex_bytes t) i 0 (omega arith) (omega arith))

pub decode_done : (t d : List ℕ) (i : ℕ) {e : List ℕ} → i ≡ length t / 2 → e ≡ paste d 0 (hex_bytes t) i → e ≡ put_of d 0 (hex_bytes t)
unfolding put_of
decode_done t d i h p = p ∙ rw (h ∙ sym (bytes_length t), take-length)

-- all bytes of a line
pub data_laid : (l d : List ℕ) {e : List ℕ} → e ≡ put_of d 0 (hex_bytes (take (length l - 5) (drop 5 l))) → Laid d 0 (data_bytes l) e ((length l - 5) / 2)
unfolding data_bytes
data_laid l d p = record { bytes = p ∙ ap (λ (t : List ℕ). put_of d 0 (hex_bytes t)) (to_end 5 l); next = omega (arith, data_length l) }

-- a line of data, by what stands behind its key
pub data_unkeyed : (kind : ℕ) (l : List ℕ) → starts_with (ascii "data=") l ≡ false → false ≡ data_good kind l
unfolding data_good
data_unkeyed kind l h = every_fails _ 0 h

pub data_keyed : (kind : ℕ) (l t : List ℕ) → starts_with (ascii "data=") l ≡ true → t ≡ drop 5 l → length t + 5 ≡ length l
    → cond (hex_good t) (cond (carries kind) true (eqb (length t) 0)) false ≡ data_good kind l
unfolding data_good every
data_keyed kind l t h p n =
    let e : eqb (length l) 5 ≡ eqb (length t) 0 = grind arith in
    rw (h, e, ← p) (go (hex_good t) (cond (carries kind) true (eqb (length t) 0)))
  where
    go : (a b : Bool) → cond a b false ≡ cond a (cond b true false) false
    go true true = refl
    go true false = refl
    go false b = refl
