-- `session_opening::open` meets its contract: refused before all else, or by the endpoint, or opened.
use native.Mathlib.Omega.{arith}
use Rattle.session_opening.proofs.Opening.{within, refused, refused_by_it, opened}
use Rattle.session_opening.proofs.open.Goals as goal

pub returns-in-Err : goal.returns-in-Err
returns-in-Err c = refused _ _ _ _ _ _ _ c.in-Err.ensures

pub returns-in-Err-answer : goal.returns-in-Err-answer
returns-in-Err-answer c = refused_by_it _ _ _ _ _ _ _ c.in_default.ensures c.open-x.ensures c.in-Err-answer.is

pub overflow_add-result : goal.overflow_add-result
overflow_add-result c = let f = within _ _ _ c.in_default.ensures in omega arith

pub returns : goal.returns
returns c = opened _ _ _ _ _ _ _ c.in_default.ensures c.open-x.ensures c.in_default-answer.is
