-- `boxed::close_39` meets its contract: each place of the list is a free one, and the call on the list says the rest.
use Rattle.boxed.proofs.close_39.Goals as goal

pub returns : goal.returns
returns c = rw c.free.ensures at c.close.ensures.0
