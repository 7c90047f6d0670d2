-- `session::free` meets its contract: both records are what opening makes of zeros, but for the sender's LogWindowSize, which is set to 0.
use mathlib.Core.Path.{refl}
use Rattle.session.specs.Place.{blank}
use Rattle.session.proofs.free.Goals as goal

pub returns : goal.returns
unfolding blank
returns c = rw (c.opened-sender.ensures, c.opened-receiver.ensures) refl
