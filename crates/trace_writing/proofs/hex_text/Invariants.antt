-- `hex_text` meets its contract: at each turn of the loop, the bytes before place i are laid as text.
use Prim.Native.Nat.{◌+◌}
use mathlib.Core.Path.{◌≡◌}
use lib.ListN.{length, take}
use Rattle.common.specs.Laid.{Laid}
use Rattle.trace.specs.Hex.{hex_text}
use Rattle.trace_writing.proofs.hex_text.Given as goal

abbrev pub invariant-loop-b : goal.invariant-loop-b
invariant-loop-b l = (length l.out ≡ length l.initial.out) × (l.to ≡ l.at + (l.b-index + l.b-index)) × Laid l.initial.out l.at (hex_text (take l.b-index l.bytes)) l.out l.to
