-- `sending::full` meets its contract: each way out is an instance of a law.
use mathlib.Core.Path.{refl, sym, ◌∙◌}
use Rattle.common.specs.Choice.{when, unless}
use Rattle.sending.proofs.full.Goals as goal

pub returns-then-at_limit : goal.returns-then-at_limit
returns-then-at_limit c = when _ _ _ _ (sym c.at_limit.ensures ∙ c.if-at_limit.true) refl

pub returns : goal.returns
returns c = unless _ _ _ _ (sym c.at_limit.ensures ∙ c.if-at_limit.false) refl
