-- `wire::bits::has_others` meets its contract: each way out is an instance of a law of Masks.
use Rattle.wire.proofs.Masks.{masked_others}
use Rattle.wire.proofs.bits.has_others.Goals as goal

pub returns : goal.returns
returns c = masked_others c.args.flags
