-- `sender_checking::number_wrong` meets its contract: its one expression is a law of Placed.
use Rattle.sender_checking.proofs.Placed.{number_wrong_is}
use Rattle.sender_checking.proofs.number_wrong.Goals as goal

pub returns : goal.returns
returns c = let a = c.args in number_wrong_is a.p a.past a.count
