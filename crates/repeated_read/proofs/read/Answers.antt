-- Reading, case by case of the answer.
use Rattle.std.proofs.Common.{◌∙◌, sym, ap}
use Rattle.repeated_read.specs.Told.{told_of}
use Rattle.repeated_read.proofs.read.Goals as goal

pub returns-in-Err : goal.returns-in-Err
unfolding told_of
returns-in-Err c = c.unread.ensures ∙ rw c.from.ensures (ap told_of (sym c.in-Err.is ∙ c.read.ensures))

pub returns-in-Ok-None : goal.returns-in-Ok-None
unfolding told_of
returns-in-Ok-None c = c.unread-in-Ok-None.ensures ∙ ap told_of (sym (rw c.in-Ok-None.field-0-is at c.in-Ok-None.is) ∙ c.read.ensures)

pub returns-in-Ok-Some : goal.returns-in-Ok-Some
unfolding told_of
returns-in-Ok-Some c = ap told_of (sym (rw c.in-Ok-Some.field-0-is at c.in-Ok-Some.is) ∙ c.read.ensures)
