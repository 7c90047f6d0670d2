-- `session_receiving::acknowledge` meets its contract: refused, or by the receiver's own call.
use Rattle.std.proofs.lemmas.Result.{err_from_is_err_and}
use Rattle.session.proofs.Making.{refused_written, refused_left}
use Rattle.session_receiving.proofs.Own.{acknowledged}
use Rattle.session_receiving.proofs.acknowledge.Goals as goal

pub returns-in_err-place_answer : goal.returns-in_err-place_answer
returns-in_err-place_answer c =
    let p = err_from_is_err_and c.from_residual.result c.from_residual.ensures.1 in
    let e = c.in_err-place_answer.ensures in
    (rw (p.1, p.2) (refused_written _ _ _ _ _ _ e), refused_left _ _ _ _ _ _ e _)

pub returns : goal.returns
returns c = acknowledged _ _ _ _ c.in_ok-place_answer.ensures _ _ _ _ c.acknowledge.ensures.answer c.acknowledge.ensures.bytes
