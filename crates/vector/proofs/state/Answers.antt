-- `vector::state` meets its contract. Within a byte's span its state is the bit, or the run's state; past it nothing is received.
-- Assumes nothing.
use mathlib.Core.Path.{sym, ◌∙◌}
use native.Mathlib.Omega.{arith}
use borrow.Author.Tests.{le-ltb}
use Rattle.vector.specs.Laws.{span_map, span_run, state_map, state_run, state_past}
use Rattle.vector.proofs.state.Goals as goal

pub returns-then-i-lt7 : goal.returns-then-i-lt7
returns-then-i-lt7 c =
    let said = sym c.in-Map.is ∙ c.says.ensures in
    c.bit.ensures ∙ state_map _ _ _ said (omega arith)

pub returns-else-i-lt7 : goal.returns-else-i-lt7
returns-else-i-lt7 c =
    let said = sym c.in-Map.is ∙ c.says.ensures in
    le-ltb _ _ c.if-i-lt7.false ∙ state_past _ _ _ (span_map _ _ said) c.if-i-lt7.false

pub returns-then-i-n : goal.returns-then-i-n
returns-then-i-n c =
    let said = sym c.in-Run.is ∙ c.says.ensures in
    state_run _ _ _ _ said (omega arith)

pub returns-else-i-n : goal.returns-else-i-n
returns-else-i-n c =
    let said = sym c.in-Run.is ∙ c.says.ensures in
    le-ltb _ _ c.if-i-n.false ∙ state_past _ _ _ (span_run _ _ _ said) c.if-i-n.false
