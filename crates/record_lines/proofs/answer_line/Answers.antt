-- `answer_line` meets its contract: each way out is an instance of a law.
use native.Mathlib.Omega.{arith}
use Rattle.text.specs.Within.{within_as, within_wider}
use Rattle.record_lines.proofs.Parts.{answer_lost, answer_refused, answer_plain}
use Rattle.record_lines.proofs.answer_line.Goals as goal
use Rattle.record_lines.proofs.answer_line.Goals.{else-sweep-via-then-sweep+else-n-eq0, else-sweep-via-else-sweep}

pub returns-then-n-eq0 : goal.returns-then-n-eq0
returns-then-n-eq0 c = within_as (answer_lost _ c.if-sweep.true c.if-n-eq0.true) c.entry.ensures

pub returns : goal.returns
returns c = within_as (elim c.else-sweep.branch [ else-sweep-via-then-sweep+else-n-eq0 w ↦ answer_refused _ _ w.if-n-eq0.false | else-sweep-via-else-sweep w ↦ answer_plain _ _ w.if-sweep.false ]) (within_wider 30 (omega arith) c.entry-2.ensures)
