-- `hex` meets its contract: at each turn of the loop, the bytes passed are digits, so what is left decides for the whole.
use mathlib.Core.Path.{◌≡◌}
use lib.ListN.{drop}
use Rattle.trace.specs.Hex.{all_hex}
use Rattle.trace_data.proofs.hex.Given as goal

abbrev pub invariant-loop-b : goal.invariant-loop-b
invariant-loop-b l = all_hex (drop l.b-index l.text) ≡ all_hex l.text
