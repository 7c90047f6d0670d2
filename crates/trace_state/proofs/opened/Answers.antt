-- `opened` meets its contract: the records are those that opening gave, and what is due goes by its answer.
use mathlib.Core.Path.{◌∙◌, ap}
use Rattle.endpoint.specs.declared.Opened.{Opened}
use Rattle.trace_state.proofs.Beginning.{opened_not, opened_well}
use Rattle.trace_state.proofs.opened.Goals as goal
use Rattle.trace_state.proofs.opened.Goals.{then-is_err, else-is_err}

pub returns : goal.returns
returns c =
    let e = c.open-x.ensures in
    let i = c.is_err.ensures.value in
    record {
      cursor =
          elim c.if-is_err.branch [
            | then-is_err w ↦ w.result-is ∙ w.waiting.ensures ∙ opened_not _ _ e i w.if-is_err.true
            | else-is_err w ↦ w.result-is ∙ opened_well _ _ e i w.if-is_err.false
          ];
      sender = ap (λ (x : Opened). x.sender) e;
      receiver = ap (λ (x : Opened). x.receiver) e;
    }
