-- `session_opening::close` meets its contract: refused as it was, or blank.
use mathlib.Core.Path.{ap}
use Rattle.common.specs.Answer.{answered_of}
use Rattle.session.specs.Call.{closes, done_of}
use Rattle.session.specs.Shapes.{reached_by}
use Rattle.session.proofs.Making.{owned, refused_reached}
use Rattle.session_opening.proofs.close.Goals as goal

pub returns-in-Err : goal.returns-in-Err
returns-in-Err c = refused_reached _ _ _ _ _ closes c.in-Err.ensures

pub returns : goal.returns
unfolding done_of answered_of
returns c = rw c.free-session.ensures (ap reached_by (owned _ _ _ _ _ closes c.in_default.ensures))
