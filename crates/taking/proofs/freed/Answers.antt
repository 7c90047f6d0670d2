-- `taking::freed` meets its contract: each way out is an instance of a law of Taking.
use Rattle.taking.proofs.Taking.{freed_is}
use Rattle.taking.proofs.freed.Goals as goal

pub returns : goal.returns
returns c = freed_is 32 c.args.r _ c.place-at.ensures.0
