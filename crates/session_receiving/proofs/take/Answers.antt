-- `session_receiving::take` meets its contract: refused as it was, or by the receiver's own call.
use Rattle.session.proofs.Making.{refused_filled, refused_left}
use Rattle.session_receiving.proofs.Own.{taken}
use Rattle.session_receiving.proofs.take.Goals as goal

pub returns-in-Err : goal.returns-in-Err
returns-in-Err c = (refused_filled _ _ _ _ _ _ c.in-Err.ensures, refused_left _ _ _ _ _ _ c.in-Err.ensures _)

pub returns : goal.returns
returns c = taken _ _ _ _ c.in_default.ensures _ _ _ c.take-taken.ensures.answer c.take-taken.ensures.«record» c.take-taken.ensures.bytes
