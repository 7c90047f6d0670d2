-- `copying::copy` meets its contract. The part is judged before a byte is written, so a refusal leaves the buffer as it is.
use Rattle.std.proofs.Common.{sym, ◌∙◌}
use Rattle.std.proofs.lemmas.Result.{err_from_is_err_and}
use Rattle.common.specs.Answer.{handed_on, answered_passed}
use Rattle.copying.proofs.Ways.{accepted_fits, copy_done}
use Rattle.copying.proofs.copy.Goals as goal

pub returns-in_err-judge : goal.returns-in_err-judge
returns-in_err-judge c =
    let p = err_from_is_err_and c.from_residual.result c.from_residual.ensures.1 in
    let both = handed_on _ _ _ _ c.in_err-judge.ensures in
    record { answer = rw (p.1, p.2) both.0; bytes = both.1 }

pub fill-requires : goal.fill-requires
fill-requires c = let f = accepted_fits _ _ _ _ (answered_passed _ _ c.in_ok-judge.ensures) in (f.long, f.inside, f.fits)

pub returns : goal.returns
returns c =
    let both = copy_done _ _ _ _ _ (answered_passed _ _ c.in_ok-judge.ensures) c.fill.ensures in
    record { answer = both.0; bytes = both.1 }
