-- The line of an answer.
use Rattle.std.specs.Prelude.{ℕ, Bool, cond, List, eqb}
use Rattle.text.specs.Decimal.{decimal_of}
use Rattle.text.specs.Lines.{line, comma}

-- "one `answer=` line per event (a sweep's is `answer=0,K`, K lost)"
unfoldable pub answer_line : Bool → ℕ → ℕ → List ℕ
answer_line sweep n k =
    line "answer" (cond sweep (cond (eqb n 0) (comma (decimal_of 0) (decimal_of k)) (decimal_of n)) (decimal_of n))
