-- `endpoint::open` meets its contract: each way out is an instance of a law.
use mathlib.Core.Path.{sym, ◌∙◌}
use native.Mathlib.Omega.{arith}
use Rattle.common.specs.Answer.{answered_passed}
use Rattle.endpoint.proofs.Opening.{firsts_fit, refused, opens}
use Rattle.endpoint.proofs.open.Goals as goal

pub returns-in-Err : goal.returns-in-Err
returns-in-Err c = refused 32 _ _ _ _ _ _ (sym c.in-Err.is ∙ c.judge.ensures) c.opened-zero.ensures c.opened.ensures

pub overflow_cast-data : goal.overflow_cast-data
overflow_cast-data c = let f = (firsts_fit _ _ _ (answered_passed _ _ (sym c.in-Ok.is ∙ c.judge.ensures))).0 in omega arith

pub overflow_cast-channel : goal.overflow_cast-channel
overflow_cast-channel c = let f = (firsts_fit _ _ _ (answered_passed _ _ (sym c.in-Ok.is ∙ c.judge.ensures))).1 in omega arith

pub returns-in-Ok : goal.returns-in-Ok
returns-in-Ok c = opens 32 _ _ _ _ _ (answered_passed _ _ (sym c.in-Ok.is ∙ c.judge.ensures)) c.opened-in-Ok.ensures c.opened-in-Ok-2.ensures
