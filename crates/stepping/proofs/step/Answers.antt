-- `step` meets its contract: one law for each way out.
use Rattle.stepping.proofs.OneLine.{line_opens, line_goes}
use mathlib.Core.Path.{sym, ◌∙◌}
use Rattle.stepping.proofs.step.Goals as goal

pub returns-then-opens : goal.returns-then-opens
returns-then-opens c = line_opens _ _ _ _ _ _ _ _ c.if-due-eq-DATA_DUE.false c.next-n.ensures (sym c.opens.ensures ∙ c.if-opens.true) c.opened-state.ensures.cursor c.opened-state.ensures.sender c.opened-state.ensures.receiver

pub returns : goal.returns
returns c = line_goes _ _ _ _ _ _ _ c.if-due-eq-DATA_DUE.false c.next-n.ensures (sym c.opens.ensures ∙ c.if-opens.false)
