-- `coder::place_after` meets its contract. A run ends within the range, so only a map can reach past its end.
-- Assumes nothing.
use native.Mathlib.Omega.{arith}
use Rattle.coder.proofs.Turns.{run_within, after_run, after_map}
use Rattle.coder.proofs.place_after.Goals as goal

pub overflow_add-result : goal.overflow_add-result
overflow_add-result c = let a = c.args in
    omega (arith, c.run_at-n.ensures, run_within a.states.now a.i (omega arith))

pub returns-then-n-gt7 : goal.returns-then-n-gt7
returns-then-n-gt7 c =
    let a = c.args in
    after_run a.states.now a.i _ (omega arith) c.run_at-n.ensures c.if-n-gt7.true

pub returns-else-n-gt7 : goal.returns-else-n-gt7
returns-else-n-gt7 c =
    let a = c.args in
    omega (arith, after_map a.states.now a.i _ (omega arith) c.run_at-n.ensures (omega arith))
