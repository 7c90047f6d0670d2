-- `vector::received` meets its contract: a map by its ones, a run by its length.
-- Assumes nothing.
use mathlib.Core.Path.{sym, ◌∙◌}
use Rattle.vector.specs.Laws.{received_run, missing_run, received_map}
use Rattle.vector.proofs.received.Goals as goal

pub returns-then-s : goal.returns-then-s
returns-then-s c =
    received_run _ _ _ (sym c.in-Run.is ∙ c.says.ensures) c.if-s.true

pub returns-in-Map : goal.returns-in-Map
returns-in-Map c =
    c.ones.ensures ∙ received_map _ _ (sym c.in-Map.is ∙ c.says.ensures)

pub returns-else-s : goal.returns-else-s
returns-else-s c =
    missing_run _ _ _ (sym c.in-Run.is ∙ c.says.ensures) c.if-s.false
