-- `laying::put_byte_if` meets its contract: each way out is an instance of a law of Given.
use Rattle.laying.proofs.Given.{laid_off}
use Rattle.laying.proofs.put_byte_if.Goals as goal

pub returns-else-flag : goal.returns-else-flag
returns-else-flag c = laid_off _ _ _ _ c.if-flag.false
