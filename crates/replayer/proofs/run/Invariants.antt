-- `run` meets its contract: what was written so far and what the lines that are left write is, at each turn of the loop, the whole.
use Prim.Native.Nat.{◌+◌, ◌-◌}
use mathlib.Core.Path.{◌≡◌}
use lib.ListN.{length}
use Rattle.replayer.proofs.AllLines.{Ran}
use Rattle.replayer.proofs.run.Given as goal

abbrev pub invariant-loop-from : goal.invariant-loop-from
invariant-loop-from l = Ran l.trace l.initial.store l.initial.sent l.initial.out l.state l.store l.sent l.out l.at l.from × (length l.store ≡ length l.initial.store) × (length l.sent ≡ length l.initial.sent)

abbrev pub decreases-loop-from : goal.decreases-loop-from
decreases-loop-from l = length l.trace + 1 - l.from
