-- `session_sending::sweep` meets its contract: refused as it was, or by the sender's own call.
use Rattle.session.proofs.Making.{refused_counted}
use Rattle.session_sending.proofs.Own.{swept}
use Rattle.session_sending.proofs.sweep.Goals as goal

pub returns-in-Err : goal.returns-in-Err
returns-in-Err c = refused_counted _ _ _ _ _ _ c.in-Err.ensures

pub returns : goal.returns
returns c = swept _ _ _ _ c.in_default.ensures _ c.sweep-swept.ensures.lost c.sweep-swept.ensures.«record»
