-- `judging::waived_to` meets its contract: each way out is an instance of a law of Fields.
use Rattle.judging.proofs.Fields.{aoa_given, aoa_absent}
use Rattle.judging.proofs.waived_to.Goals as goal

pub returns-then-flag : goal.returns-then-flag
returns-then-flag c = aoa_given _ _ _ c.if-flag.true c.number_at.ensures

pub returns-else-flag : goal.returns-else-flag
returns-else-flag c = aoa_absent _ _ c.if-flag.false
