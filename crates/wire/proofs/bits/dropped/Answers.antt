-- `wire::bits::dropped` meets its contract: each way out is an instance of a law of Masks.
use Rattle.wire.proofs.Masks.{dropped_none, dropped_some}
use native.Mathlib.Omega.{arith}
use Rattle.wire.proofs.bits.dropped.Goals as goal

pub returns-then-short-eq0 : goal.returns-then-short-eq0
returns-then-short-eq0 c = (dropped_none _ c.if-short-eq0.true, omega arith)

pub returns-else-short-eq0 : goal.returns-else-short-eq0
returns-else-short-eq0 c = (dropped_some _ c.if-short-eq0.false, omega arith)
