-- `session_receiving::receive` meets its contract: refused as it was, or by the endpoint's own call.
use Rattle.session.proofs.Making.{refused_reached, refused_store}
use Rattle.session_receiving.proofs.Own.{received}
use Rattle.session_receiving.proofs.receive.Goals as goal

pub returns-in-Err : goal.returns-in-Err
returns-in-Err c = (refused_reached _ _ _ _ _ _ c.in-Err.ensures, refused_store _ _ _ _ _ _ c.in-Err.ensures)

pub returns : goal.returns
returns c = received _ _ _ _ c.in_default.ensures _ _ c.receive-heard.ensures.answer c.receive-heard.ensures.sender c.receive-heard.ensures.receiver c.receive-heard.ensures.bytes
