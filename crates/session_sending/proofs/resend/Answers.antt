-- `session_sending::resend` meets its contract: refused as it was, or by the sender's own call.
use Rattle.session.proofs.Making.{refused_filled, refused_left}
use Rattle.session_sending.proofs.Own.{resent}
use Rattle.session_sending.proofs.resend.Goals as goal

pub returns-in-Err : goal.returns-in-Err
returns-in-Err c = (refused_filled _ _ _ _ _ _ c.in-Err.ensures, refused_left _ _ _ _ _ _ c.in-Err.ensures _)

pub returns : goal.returns
returns c = resent _ _ _ _ c.in_default.ensures _ _ _ _ c.resend-resent.ensures.answer c.resend-resent.ensures.«record» c.resend-resent.ensures.bytes
