-- `vector::span` meets its contract. A map has seven states, and a run as many as it says.
-- Assumes nothing.
use mathlib.Core.Path.{sym, ◌∙◌}
use Rattle.vector.specs.Laws.{span_map, span_run}
use Rattle.vector.proofs.span.Goals as goal

pub returns-in-Map : goal.returns-in-Map
returns-in-Map c = span_map _ _ (sym c.in-Map.is ∙ c.says.ensures)

pub returns-in-Run : goal.returns-in-Run
returns-in-Run c = span_run _ _ _ (sym c.in-Run.is ∙ c.says.ensures)
