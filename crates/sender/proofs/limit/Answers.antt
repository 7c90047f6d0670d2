-- `sender::limit` meets its contract: 2 to the smaller of two powers is the smaller of two numbers.
use borrow.Author.Rules.{rules}
use Rattle.sender.proofs.Powers.{limit_is}
use Rattle.sender.proofs.limit.Goals as goal

pub returns : goal.returns
returns c = limit_is c.args.logwindow c.min.result (search rules)
