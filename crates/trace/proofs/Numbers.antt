-- A law for each way out of the reading of a number, digit by digit, and of one or two of them in a line.
use Prim.Native.Nat.{ℕ, ◌+◌, ◌*◌, ◌-◌, ◌≤◌, ◌<◌}
use mathlib.Core.Bool.{Bool, true, false, cond, not}
use mathlib.Core.List.{List, [], ◌∷◌}
use mathlib.Core.Path.{◌≡◌, refl, sym, ◌∙◌, ap}
use native.Mathlib.Numerals.{add-one}
use native.Mathlib.Omega.{arith}
use borrow.Author.Tests.{leb-true, lt-ltb, le-ltb, ltb-false, eq-eqb, ne_eqb}
use lib.ListN.{length, take, drop, get_or, length-take, drop_of_length-le}
use lib.Seq.{drop-cons}
use lib.Dec.{eqb, ltb, leb}
use Rattle.common.specs.Choice.{when, unless}
use Rattle.common.specs.EveryLaws.{every_fails, all_every}
use Rattle.common.specs.Facts.{clash}
use Rattle.text.specs.Ascii.{ascii}
use Rattle.text.specs.Decimal.{value_from, value_of}
use Rattle.std.specs.Prelude.{Option, None, Some}
use Rattle.trace.specs.Lines.{up_to, past}
use Rattle.trace.specs.LinesLaws.{up_to_length, up_to_take, past_drop}
use Rattle.trace.specs.Words.{starts_with}
use Rattle.trace.specs.WordsLaws.{to_end}
use Rattle.trace.specs.Numbers.{is_digit, all_digits, leading_zero, is_number, number_of, number_under, on_number, pair_of, first_of}

-- a digit is not below `0`, nor above `9`
pub digit_range : (b : ℕ) → is_digit b ≡ true → (48 ≤ b) × (b ≤ 57)
unfolding is_digit
digit_range b = go (ltb b 48) refl
  where
    go : (t : Bool) → ltb b 48 ≡ t → cond t false (leb b 57) ≡ true → (48 ≤ b) × (b ≤ 57)
    go true e h = clash false h refl
    go false e h = (ltb-false b 48 e, leb-true b 57 h)

-- the byte at place i is a digit, or is none
pub digits_more : (ds : List ℕ) (i : ℕ) → i < length ds → is_digit (get_or ds i 0) ≡ true → all_digits (drop (i + 1) ds) ≡ all_digits (drop i ds)
unfolding all_digits
digits_more ds i h e = rw (drop-cons ds i 0 h, e, add-one i) refl

pub digits_stop : (ds : List ℕ) (i : ℕ) → i < length ds → is_digit (get_or ds i 0) ≡ false → false ≡ all_digits (drop i ds)
unfolding all_digits
digits_stop ds i h e = rw (drop-cons ds i 0 h, e) refl

pub digits_done : (ds : List ℕ) (i : ℕ) → length ds ≤ i → true ≡ all_digits (drop i ds)
unfolding all_digits
digits_done ds i h = rw (drop_of_length-le ds h) refl

-- what its value adds to that of the digits before it
pub value_more : (ds : List ℕ) (i v : ℕ) → i < length ds → value_from (v * 10 + (get_or ds i 0 - 48)) (drop (i + 1) ds) ≡ value_from v (drop i ds)
unfolding value_from
value_more ds i v h = rw (drop-cons ds i 0 h, add-one i) refl

pub value_done : (ds : List ℕ) (i v : ℕ) → length ds ≤ i → v ≡ value_from v (drop i ds)
unfolding value_from
value_done ds i v h = rw (drop_of_length-le ds h) refl

-- more digits, no smaller a value
value_grows : (v : ℕ) (ds : List ℕ) → v ≤ value_from v ds
unfolding value_from
value_grows v [] = omega arith
value_grows v (d ∷ ds) = omega (arith, value_grows (v * 10 + (d - 48)) ds)

pub value_none : (ds : List ℕ) → value_from 0 ds ≡ value_of ds
unfolding value_of
value_none ds = refl

-- no leading zero
pub leads_alone : (ds : List ℕ) → length ds ≤ 1 → leading_zero ds ≡ false
unfolding leading_zero
leads_alone ds h = rw (le-ltb 1 (length ds) h) refl

pub leads_other : (ds : List ℕ) → (get_or ds 0 0 ≡ 48 → ⊥) → leading_zero ds ≡ false
unfolding leading_zero
leads_other ds h = rw (ne_eqb (get_or ds 0 0) 48 h) (go (ltb 1 (length ds)))
  where
    go : (t : Bool) → cond t false false ≡ false
    go true = refl
    go false = refl

-- a number is badly written by any of four tests
tests : List ℕ → List Bool
tests ds = not (eqb (length ds) 0) ∷ not (leading_zero ds) ∷ all_digits ds ∷ ltb (value_of ds) 4294967296 ∷ []

number_fails : (ds : List ℕ) (i : ℕ) → get_or (tests ds) i true ≡ false → None ≡ number_of ds
unfolding number_of is_number tests
number_fails ds i h = unless _ _ _ _ (sym (every_fails (tests ds) i h)) refl

pub number_empty : (ds : List ℕ) → length ds ≡ 0 → None ≡ number_of ds
unfolding tests
number_empty ds h = number_fails ds 0 (ap not (eq-eqb (length ds) 0 h))

pub number_leads : (ds : List ℕ) → 1 < length ds → get_or ds 0 0 ≡ 48 → None ≡ number_of ds
unfolding tests leading_zero
number_leads ds h e = number_fails ds 1 (rw (lt-ltb 1 (length ds) h, eq-eqb (get_or ds 0 0) 48 e) refl)

pub number_other : (ds : List ℕ) → false ≡ all_digits ds → None ≡ number_of ds
unfolding tests
number_other ds e = number_fails ds 2 (sym e)

-- the value passes the highest already with the digit at place i
pub number_large : (ds : List ℕ) (i v : ℕ) → i < length ds → value_from v (drop i ds) ≡ value_of ds → 4294967295 < v * 10 + (get_or ds i 0 - 48)
    → None ≡ number_of ds
unfolding tests
number_large ds i v l e h =
    let g : 4294967296 ≤ value_of ds = omega (arith, value_more ds i v l, value_grows (v * 10 + (get_or ds i 0 - 48)) (drop (i + 1) ds)) in
    number_fails ds 3 (le-ltb (value_of ds) 4294967296 g)

pub number_given : (ds : List ℕ) (v : ℕ) → (length ds ≡ 0 → ⊥) → leading_zero ds ≡ false → true ≡ all_digits ds → v ≡ value_of ds → v ≤ 4294967295
    → Some v ≡ number_of ds
unfolding number_of is_number
number_given ds v some lead digits e h =
    let l : value_of ds < 4294967296 = omega arith in
    when _ _ _ _ (all_every _ (ap not (ne_eqb (length ds) 0 some), (ap not lead, (sym digits, (lt-ltb (value_of ds) 4294967296 l, tt))))) (ap Some e)

-- the number under a key, by what stands behind it
pub under_other : (key l : List ℕ) → starts_with key l ≡ false → None ≡ number_under key l
unfolding number_under
under_other key l h = unless _ _ _ _ h refl

pub under_key : {v : Option ℕ} (key l t : List ℕ) → starts_with key l ≡ true → t ≡ drop (length key) l → v ≡ number_of t
    → v ≡ number_under key l
unfolding number_under
under_key key l t h p e = when _ _ _ _ h (e ∙ ap number_of p)

-- two numbers, of which the second is badly written
no_second : (v w : Option ℕ) → None ≡ w → ◌≡◌ {A = Option (ℕ × ℕ)} None (on_number v (λ d. on_number w (λ c. Some (d, c)) None) None)
no_second (Some d) w e = rw (← e) refl
no_second None w e = refl

pub first_other : (l : List ℕ) → starts_with (ascii "first=") l ≡ false → None ≡ first_of l
unfolding first_of
first_other l h = unless _ _ _ _ h refl

pub comma_within : (t : List ℕ) (comma : ℕ) → comma ≡ 0 + length (up_to 44 t) → comma ≤ length t
comma_within t comma at = omega (arith, up_to_length 44 t)

-- the two numbers around the comma that was found in what stands behind the key
module _ (l t : List ℕ) (comma : ℕ) (key : starts_with (ascii "first=") l ≡ true) (rest : t ≡ drop 6 l) (at : comma ≡ 0 + length (up_to 44 t)) where
  before_comma : take comma t ≡ up_to 44 (drop 6 l)
  before_comma =
      let e : comma ≡ length (up_to 44 t) = omega arith in
      rw e (sym (up_to_take 44 t)) ∙ ap (up_to 44) rest

  behind_comma : take (length t - (comma + 1)) (drop (comma + 1) t) ≡ past 44 (drop 6 l)
  behind_comma =
      let e : comma ≡ length (up_to 44 t) = omega arith in
      to_end (comma + 1) t ∙ rw e (sym (past_drop 44 t)) ∙ ap (past 44) rest

  pub first_data_bad : None ≡ number_of (take comma t) → None ≡ first_of l
  unfolding first_of pair_of
  first_data_bad e = when _ _ _ _ key (rw (← (e ∙ ap number_of before_comma)) refl)

  pub first_channel_bad : None ≡ number_of (take (length t - (comma + 1)) (drop (comma + 1) t)) → None ≡ first_of l
  unfolding first_of pair_of
  first_channel_bad e =
      when _ _ _ _ key
      (no_second (number_of (up_to 44 (drop 6 l))) (number_of (past 44 (drop 6 l))) (e ∙ ap number_of behind_comma))

  pub first_no_comma : comma ≡ length t → None ≡ first_of l
  first_no_comma h = first_channel_bad (number_empty _ (omega (arith, length-take (length t - (comma + 1)) (drop (comma + 1) t))))

  pub first_both : (d c : ℕ) → Some d ≡ number_of (take comma t)
      → Some c ≡ number_of (take (length t - (comma + 1)) (drop (comma + 1) t)) → Some (d, c) ≡ first_of l
  unfolding first_of pair_of
  first_both d c e f =
      when _ _ _ _ key (rw (← (e ∙ ap number_of before_comma), ← (f ∙ ap number_of behind_comma)) refl)
