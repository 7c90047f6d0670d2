-- `find` meets its contract: as long as x was not met, what stands before x from here on ends where it did from the start on.
use Prim.Native.Nat.{max, ◌+◌, ◌≤◌}
use mathlib.Core.Path.{◌≡◌}
use lib.ListN.{length, drop}
use Rattle.trace.specs.Lines.{up_to}
use Rattle.trace_words.proofs.find.Given as goal

abbrev pub invariant-loop-i : goal.invariant-loop-i
invariant-loop-i l = (l.i ≤ max l.from (length l.b)) × (l.i + length (up_to l.x (drop l.i l.b)) ≡ l.from + length (up_to l.x (drop l.from l.b)))
