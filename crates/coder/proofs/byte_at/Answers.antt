-- `coder::byte_at` meets its contract. At most seven states alike are written as a map, and more as a run: the two ways of the definition.
-- Assumes nothing.
use Prim.Native.Nat.{ℕ, ◌+◌, ◌*◌}
use mathlib.Core.Bool.{false}
use mathlib.Core.Path.{◌∙◌, ap}
use native.Mathlib.Omega.{arith}
use lib.ListN.{get_or}
use Rattle.coder.proofs.Turns.{bit_small, run_fits, byte_of_map, byte_of_run}
use Rattle.coder.proofs.byte_at.Goals as goal

pub returns-then-n-le7 : goal.returns-then-n-le7
returns-then-n-le7 c =
    let a = c.args in
    c.map_at.ensures ∙ byte_of_map a.states.now a.i _ (omega arith) c.run_at-n.ensures (omega arith)

pub overflow_cast-n : goal.overflow_cast-n
overflow_cast-n c = omega (arith, run_fits _ _ _ c.run_at-n.ensures)

pub run_byte-requires : goal.run_byte-requires
run_byte-requires c =
    let a = c.args in
    (rw c.bit_at.ensures (bit_small (get_or a.states.now (a.i + 0) false)), run_fits _ _ _ c.run_at-n.ensures)

pub returns-else-n-le7 : goal.returns-else-n-le7
returns-else-n-le7 c =
    let a = c.args in
    let run = c.run_at-n in
    c.run_byte.ensures
    ∙ ap (λ (s : ℕ). 128 + 64 * s + run.result) c.bit_at.ensures
    ∙ byte_of_run a.states.now a.i _ (omega arith) run.ensures (omega arith)
