-- Places looked at in their own order, not in that of the numbers.
use Rattle.std.specs.Prelude.{ℕ, ◌+◌, ◌-◌, ◌%◌, ◌<◌, min, Bool, true, not, ◌≡◌, leb, ltb}
use Rattle.std.proofs.Common.{⊎_elim, sym, ◌∙◌, ap, mod-lt, arith, lt-ltb, le-ltb}
use Rattle.common.specs.Every.{all_below}
use Rattle.common.specs.EveryLaws.{all_at, all_from}
use Rattle.common.specs.Facts.{lt_or_ge, leb_not, same_bool}
use Rattle.window.specs.Places.{number_from, number_at, past_of, past_is}

-- how many of the w numbers from a on lie below e
abbrev pub count_of : ℕ → ℕ → ℕ → ℕ
count_of w a e = min w (e - a)

-- All numbers from b on, each at its place, are all places.
pub all_placed : (w b : ℕ) (p q : ℕ → Bool) → ((i : ℕ) → i < w → p i ≡ q ((b + i) % w)) → all_below p w ≡ all_below q w
all_placed w b p q e = same_bool (all_below p w) (all_below q w) (λ t. all_from q w (λ j l. placed t j l)) (λ t. all_from p w (λ i l. numbered t i l))
  where
    placed : all_below p w ≡ true → (j : ℕ) → j < w → q j ≡ true
    placed t j l =
        let (lo, up, at) = number_at w b j l in
        let k : b + (number_from w b j - b) ≡ number_from w b j = omega arith in
        ap q (sym (ap (λ (n : ℕ). n % w) k ∙ at)) ∙ sym (e (number_from w b j - b) (omega arith)) ∙ all_at p w t (number_from w b j - b) (omega arith)

    numbered : all_below q w ≡ true → (i : ℕ) → i < w → p i ≡ true
    numbered t i l = e i l ∙ all_at q w t ((b + i) % w) (mod-lt (b + i) (omega arith))

-- The number at a place lies below e where it lies so far past a, and else from e on.
pub past_below : (w a e i : ℕ) → i < w → ltb (a + i) e ≡ ltb (past_of w a ((a + i) % w)) (count_of w a e)
past_below w a e i l =
    ⊎_elim
    (λ lt. lt-ltb (a + i) e lt ∙ sym (lt-ltb (past_of w a ((a + i) % w)) (count_of w a e) (omega (arith, past_is w a i l))))
    (λ ge. le-ltb (a + i) e ge ∙ sym (le-ltb (past_of w a ((a + i) % w)) (count_of w a e) (omega (arith, past_is w a i l))))
    (lt_or_ge (a + i) e)

pub past_from : (w a e i : ℕ) → i < w → leb e (a + i) ≡ leb (count_of w a e) (past_of w a ((a + i) % w))
past_from w a e i l = leb_not e (a + i) ∙ ap not (past_below w a e i l) ∙ sym (leb_not (count_of w a e) (past_of w a ((a + i) % w)))
