-- `coder::size` meets its contract. The bytes counted, and those of the vector from place i on, give the whole vector.
-- Assumes nothing.
use Prim.Native.Nat.{◌+◌, ◌-◌, ◌≤◌}
use mathlib.Core.Path.{◌≡◌}
use lib.ListN.{length, drop}
use Rattle.vector.specs.Rule.{vector_of}
use Rattle.coder.proofs.size.Given as goal

abbrev pub invariant-loop-i : goal.invariant-loop-i
invariant-loop-i l = (l.i ≤ length l.states) × (l.n ≤ l.i) × (l.n + length (vector_of (drop l.i l.states)) ≡ length (vector_of l.states))

abbrev pub decreases-loop-i : goal.decreases-loop-i
decreases-loop-i l = length l.states - l.i
