-- `acknowledging::judge_up_to` meets its contract: each way out is an instance of a law.
use mathlib.Core.Path.{sym, ◌∙◌}
use Rattle.acknowledging.proofs.Acked.{up_to_early, up_to_late, up_to_named, up_to_no_number}
use Rattle.acknowledging.proofs.judge_up_to.Goals as goal
use Rattle.acknowledging.proofs.judge_up_to.Goals.{then-n-firstdata-via-then-n-firstdata, then-n-firstdata-via-else-n-firstdata+then-next-n}

pub returns-in_default : goal.returns-in_default
returns-in_default c = up_to_no_number 32 _ _ _ _ c.widen.ensures c.in_default.not-At

pub returns-then-n-firstdata : goal.returns-then-n-firstdata
returns-then-n-firstdata c =
    (elim c.then-n-firstdata.branch [
      | then-n-firstdata-via-then-n-firstdata w ↦ up_to_early 32 _ _ _ _ (sym c.in-At.is ∙ c.widen.ensures) w.if-n-firstdata.true
      | then-n-firstdata-via-else-n-firstdata+then-next-n w ↦ up_to_late 32 _ _ _ _ (sym c.in-At.is ∙ c.widen.ensures) w.if-n-firstdata.false w.if-next-n.true
    ])

pub returns : goal.returns
returns c = up_to_named 32 _ _ _ _ (sym c.in-At.is ∙ c.widen.ensures) c.if-n-firstdata.false c.if-next-n.false
