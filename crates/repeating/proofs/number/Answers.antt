-- The answer of a call that writes, case by case.
use Rattle.std.proofs.Common.{◌∙◌, sym, ap}
use Rattle.repeating.specs.Steps.{written_number}
use Rattle.repeating.proofs.number.Goals as goal

pub returns-in-Err : goal.returns-in-Err
unfolding written_number
returns-in-Err c = c.from.ensures ∙ sym (ap written_number c.in-Err.is)

pub returns-in-Ok : goal.returns-in-Ok
unfolding written_number
returns-in-Ok c = sym (ap written_number c.in-Ok.is)
