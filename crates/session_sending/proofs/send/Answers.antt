-- `session_sending::send` meets its contract: refused as it was, or by the sender's own call.
use Rattle.session.proofs.Making.{refused_filled, refused_store, refused_left}
use Rattle.session_sending.proofs.Own.{sent}
use Rattle.session_sending.proofs.send.Goals as goal

pub returns-in-Err : goal.returns-in-Err
returns-in-Err c =
    let e = c.in-Err.ensures in
    (refused_filled _ _ _ _ _ _ e, refused_store _ _ _ _ _ _ e, refused_left _ _ _ _ _ _ e _)

pub returns : goal.returns
returns c = sent _ _ _ _ c.in_default.ensures _ _ _ _ _ c.send-sent.ensures.answer c.send-sent.ensures.«record» c.send-sent.ensures.kept c.send-sent.ensures.bytes
