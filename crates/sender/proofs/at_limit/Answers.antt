-- `sender::at_limit` meets its contract: it compares the limit.
use Rattle.sender.specs.Send.{at_limit_of}
use Rattle.sender.proofs.Powers.{compared}
use Rattle.sender.proofs.at_limit.Goals as goal

pub returns : goal.returns
unfolding at_limit_of
returns c = compared _ _ _ c.limit.ensures
