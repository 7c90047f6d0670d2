-- `writer::write` meets its contract: each way out is an instance of a law of Judging.
use lib.ListN.{length}
use Rattle.std.proofs.lemmas.Result.{err_from_is_err_and}
use Rattle.common.specs.Answer.{written_wrote, left_wrote}
use Rattle.writer.proofs.Judging.{refused_tells, fits_tells}
use Rattle.writer.proofs.write.Goals as goal

pub returns-in_err-k : goal.returns-in_err-k
returns-in_err-k c =
    let a = c.args in
    let p = err_from_is_err_and c.from_residual.result c.from_residual.ensures.1 in
    let both = refused_tells a.v a.additions.now a.vector.now a.body.now (length a.out.now) _ a.out.now c.in_err-k.ensures in
    record { answer = rw (p.1, p.2) both.0; bytes = both.1 }

pub put_datagram-requires : goal.put_datagram-requires
put_datagram-requires c =
    let a = c.args in
    let both = fits_tells a.v a.additions.now a.vector.now a.body.now (length a.out.now) _ c.in_ok-k.ensures in
    record { value = both.0; k_value = both.1 }

pub returns : goal.returns
returns c =
    let a = c.args in
    let t = fits_tells a.v a.additions.now a.vector.now a.body.now (length a.out.now) _ c.in_ok-k.ensures in
    record { answer = written_wrote _ _ _ _ _ t.0 c.put_datagram.ensures; bytes = left_wrote _ _ _ _ _ t.0 c.put_datagram.ensures }
