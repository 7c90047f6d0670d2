-- `coder::fill` meets its contract. The bytes still to be laid from place i on, over what stands, give the whole; each turn lays one of them.
-- Assumes nothing.
use Prim.Native.Nat.{◌+◌, ◌-◌, ◌≤◌}
use mathlib.Core.Path.{◌≡◌}
use lib.ListN.{length, drop}
use Rattle.common.specs.Put.{put_of}
use Rattle.vector.specs.Rule.{vector_of}
use Rattle.coder.proofs.fill.Given as goal

abbrev pub invariant-loop-i : goal.invariant-loop-i
invariant-loop-i l = (l.i ≤ length l.states)
    × (length l.out ≡ length l.initial.out)
    × (l.j + length (vector_of (drop l.i l.states)) ≤ length l.out)
    × (put_of l.out l.j (vector_of (drop l.i l.states)) ≡ put_of l.initial.out 0 (vector_of l.states))

abbrev pub decreases-loop-i : goal.decreases-loop-i
decreases-loop-i l = length l.states - l.i
