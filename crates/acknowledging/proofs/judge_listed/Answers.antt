-- `acknowledging::judge_listed` meets its contract: each way out is an instance of a law.
use mathlib.Core.Path.{sym, ◌∙◌}
use native.Mathlib.Omega.{arith}
use Rattle.acknowledging.proofs.Acked.{widened_least, listed_early, listed_never, listed_named, listed_no_number}
use Rattle.acknowledging.proofs.judge_listed.Goals as goal

pub returns-in_default : goal.returns-in_default
returns-in_default c = listed_no_number 32 _ _ _ _ _ _ c.widen.ensures c.in_default.not-At

pub returns-then-n-firstdata : goal.returns-then-n-firstdata
returns-then-n-firstdata c = listed_early 32 _ _ _ _ _ _ (sym c.in-At.is ∙ c.widen.ensures) c.if-n-firstdata.true

pub walk-requires : goal.walk-requires
walk-requires c = let l = widened_least _ _ _ (omega arith) (sym c.in-At.is ∙ c.widen.ensures) in (omega arith, omega arith, omega arith, omega arith)

pub returns-in_default-walk : goal.returns-in_default-walk
returns-in_default-walk c = listed_never 32 _ _ _ _ _ _ _ (sym c.in-At.is ∙ c.widen.ensures) c.if-n-firstdata.false c.walk.ensures c.in_default-walk.not-Some

pub returns : goal.returns
returns c = listed_named 32 _ _ _ _ _ _ _ (sym c.in-At.is ∙ c.widen.ensures) c.if-n-firstdata.false (sym c.in-Some.is ∙ c.walk.ensures)
