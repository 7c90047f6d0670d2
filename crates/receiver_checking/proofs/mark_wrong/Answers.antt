-- `receiver_checking::mark_wrong` meets its contract: its one expression is a law of Consistency.
use Rattle.receiver_checking.proofs.Consistency.{mark_wrong_is}
use Rattle.receiver_checking.proofs.mark_wrong.Goals as goal

pub returns : goal.returns
returns c = mark_wrong_is _ _ _
