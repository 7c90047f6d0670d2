-- `receiver_checking::consistent` meets its contract: each way out is an instance of a law of Consistency, and the loops' flag is raised where a place before them is wrong.
use Prim.Native.Nat.{◌-◌, ◌≤◌}
use mathlib.Core.Path.{◌≡◌}
use Rattle.common.specs.EveryLaws.{raised}
use Rattle.receiver_checking.proofs.Consistency.{mark_placed, kept_placed}
use Rattle.receiver_checking.proofs.consistent.Given as goal

abbrev pub invariant-loop-i : goal.invariant-loop-i
invariant-loop-i l = l.wrong ≡ raised l.initial.wrong (mark_placed 32 l.fn.r) l.i

abbrev pub invariant-loop-k : goal.invariant-loop-k
invariant-loop-k l = (l.k ≤ 32) × (l.wrong ≡ raised l.initial.wrong (kept_placed l.r) l.k)

abbrev pub decreases-loop-k : goal.decreases-loop-k
decreases-loop-k l = 32 - l.k
