-- `receiver_checking::hold_wrong` meets its contract: its one expression is a law of Consistency.
use Rattle.receiver_checking.proofs.Consistency.{hold_wrong_is}
use Rattle.receiver_checking.proofs.hold_wrong.Goals as goal

pub returns : goal.returns
returns c = hold_wrong_is _
