-- The line that an event's call is answered with.
use Prim.Native.Nat.{ℕ}
use mathlib.Core.Bool.{Bool, true, false, cond}
use mathlib.Core.List.{List}
use mathlib.Core.Path.{◌≡◌, refl, sym, ◌∙◌, ap}
use native.Mathlib.Omega.{arith}
use borrow.Author.Tests.{ne_eqb, eqb-true}
use lib.Dec.{eqb}
use Rattle.std.specs.Prelude.{Ok, Err}
use Rattle.std.specs.Result.{result_unwrap_or}
use Rattle.common.specs.Answer.{is_answer, refusal_of, number_of, settled, number_settled}
use Rattle.text.specs.Decimal.{decimal_of}
use Rattle.text.specs.Lines.{line, comma}
use Rattle.text.specs.Within.{LaidWithin, within_as}
use Rattle.endpoint.specs.Calls.{Endpoint, receives, sends, resends, takes, sweeps, acknowledges, answer_of}
use Rattle.endpoint.specs.Known.{answers_known}
use Rattle.record_lines.specs.AnswerLine.{answer_line}
use Rattle.calling.specs.declared.Called.{Called}
use Rattle.calling.specs.Asks.{call_by, lost_to}
use Rattle.calling.specs.Does.{Does}
use Rattle.answering.specs.Answers.{is_sweep, answer_for}

-- an event's call is a sweep exactly if its kind is
sweep_of_lem : (tick : ℕ) (bytes : List ℕ) (a b c d e : Bool) → (a ≡ true → e ≡ false) → (b ≡ true → e ≡ false) → (c ≡ true → e ≡ false) → (d ≡ true → e ≡ false)
    → is_sweep (cond a (receives bytes) (cond b (sends tick bytes 1232) (cond c (resends tick 1232) (cond d (takes 1232) (cond e (sweeps tick) (acknowledges tick 0 1232)))))) ≡ e
unfolding is_sweep
sweep_of_lem tick bytes true b c d e p q r s = sym (p refl)
sweep_of_lem tick bytes false true c d e p q r s = sym (q refl)
sweep_of_lem tick bytes false false true d e p q r s = sym (r refl)
sweep_of_lem tick bytes false false false true e p q r s = sym (s refl)
sweep_of_lem tick bytes false false false false true p q r s = refl
sweep_of_lem tick bytes false false false false false p q r s = refl

sweep_by : (kind tick : ℕ) (bytes : List ℕ) → is_sweep (call_by kind tick bytes) ≡ eqb kind 5
unfolding call_by
sweep_by kind tick bytes =
    let no : (n : ℕ) → (n ≡ 5 → ⊥) → eqb kind n ≡ true → eqb kind 5 ≡ false = λ n h e. ne_eqb kind 5 (λ q. h (sym (eqb-true kind n e) ∙ q)) in
    sweep_of_lem tick bytes (eqb kind 1) (eqb kind 2) (eqb kind 3) (eqb kind 4) (eqb kind 5)
    (no 1 (λ q. omega arith)) (no 2 (λ q. omega arith)) (no 3 (λ q. omega arith)) (no 4 (λ q. omega arith))

-- the line of an answer, told by its number and by how many were lost: a refusal's does not look at these
told_line : (sweep : Bool) (n lost : ℕ) → is_answer n ≡ true
    → answer_line sweep (number_of (settled n lost)) (result_unwrap_or (settled n lost) 0) ≡ answer_line sweep n lost
unfolding answer_line
told_line sweep n lost h = rw (number_settled n lost h) (ap (λ (b : List ℕ). line "answer" (cond sweep b (decimal_of n))) (by (eqb n 0)))
  where
    by : (t : Bool)
        → cond t (comma (decimal_of 0) (decimal_of (result_unwrap_or (cond t (Ok lost) (Err (refusal_of n))) 0))) (decimal_of n)
        ≡ cond t (comma (decimal_of 0) (decimal_of lost)) (decimal_of n)
    by true = refl
    by false = refl

pub answer_laid : (e : Endpoint) (kind tick : ℕ) (bytes : List ℕ) (x : Called) {n lost : ℕ} {store sent out out' : List ℕ} {at r : ℕ}
    → Does e (call_by kind tick bytes) x store sent → n ≡ number_of x.answer → lost ≡ result_unwrap_or x.answer 0
    → LaidWithin 30 (answer_line (eqb kind 5) n lost) out at out' r → LaidWithin 30 (answer_for e (call_by kind tick bytes)) out at out' r
unfolding answer_for
answer_laid e kind tick bytes x y h k z =
    let c = call_by kind tick bytes in
    within_as (rw (h, k, y.answer, sweep_by kind tick bytes) (told_line (eqb kind 5) (answer_of 32 32 e c) (lost_to e c) (answers_known 32 32 e c))) z
