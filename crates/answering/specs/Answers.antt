-- The lines of the answers that calls give, one after the other.
use Rattle.std.specs.Prelude.{ℕ, Bool, true, false, List, [], ◌∷◌, ◌++◌}
use Rattle.text.specs.Decimal.{decimal_of}
use Rattle.text.specs.Lines.{line}
use Rattle.endpoint.specs.Calls.{Endpoint, Call, receives, takes, acknowledges, sends, resends, sweeps, answer_of, call_of}
use Rattle.record_lines.specs.AnswerLine.{answer_line}
use Rattle.calling.specs.Asks.{lost_to}

-- the line of a refusal
abbrev pub refusal : ℕ → List ℕ
refusal n = line "answer" (decimal_of n)

unfoldable pub is_sweep : Call → Bool
is_sweep (receives d) = false
is_sweep (takes room) = false
is_sweep (acknowledges stamp gap room) = false
is_sweep (sends tick block room) = false
is_sweep (resends tick room) = false
is_sweep (sweeps tick) = true

unfoldable pub answer_for : Endpoint → Call → List ℕ
answer_for e c = answer_line (is_sweep c) (answer_of 32 32 e c) (lost_to e c)

-- the lines of calls one after the other
unfoldable pub answers_for : Endpoint → List Call → List ℕ
answers_for e [] = []
answers_for e (c ∷ cs) = answer_for e c ++ answers_for (call_of 32 32 e c) cs
