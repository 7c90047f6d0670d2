-- `decode` meets its contract: at each turn of the loop, the bytes before place i are those that the text is.
use Prim.Native.Nat.{◌/◌, ◌≤◌}
use mathlib.Core.Path.{◌≡◌}
use lib.ListN.{length}
use lib.Seq.{paste}
use Rattle.trace.specs.Hex.{hex_bytes}
use Rattle.trace_data.proofs.decode.Given as goal

abbrev pub invariant-loop-i : goal.invariant-loop-i
invariant-loop-i l = (l.i ≤ length l.text / 2) × (length l.out ≡ length l.initial.out) × (l.out ≡ paste l.initial.out 0 (hex_bytes l.text) l.i)
