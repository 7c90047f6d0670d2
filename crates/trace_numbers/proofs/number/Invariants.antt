-- `number` meets its contract: where the loop stands, the digits still to come and the value so far decide what the whole is.
use Prim.Native.Nat.{◌≤◌}
use mathlib.Core.Bool.{false}
use mathlib.Core.Path.{◌≡◌}
use lib.ListN.{drop}
use Rattle.text.specs.Decimal.{value_from, value_of}
use Rattle.trace.specs.Numbers.{all_digits, leading_zero}
use Rattle.trace_numbers.proofs.number.Given as goal

abbrev pub invariant-loop-d : goal.invariant-loop-d
invariant-loop-d l = (l.value ≤ 4294967295)
    × (leading_zero l.text ≡ false)
    × (all_digits (drop l.d-index l.text) ≡ all_digits l.text)
    × (value_from l.value (drop l.d-index l.text) ≡ value_of l.text)
