-- `sender_checking::block_wrong` meets its contract: its one expression is a law of Placed.
use Rattle.sender_checking.proofs.Placed.{block_wrong_is}
use Rattle.sender_checking.proofs.block_wrong.Goals as goal

pub returns : goal.returns
returns c = block_wrong_is _ _ _ _
