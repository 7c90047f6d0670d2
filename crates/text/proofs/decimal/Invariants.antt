-- `decimal` meets its contract, since the digits of what is left and the digits found are, at each turn of the loop, the digits of n.
use Prim.Native.Nat.{◌≤◌}
use mathlib.Core.List.{◌++◌}
use mathlib.Core.Path.{◌≡◌}
use lib.ListN.{length, drop}
use Rattle.text.specs.Decimal.{decimal_of}
use Rattle.text.proofs.decimal.Given as goal

-- there is room for the digits of what is left, and with the digits found they are those of n
abbrev pub invariant-loop-rest : goal.invariant-loop-rest
invariant-loop-rest l = (l.i ≤ 20) × (length l.digits ≡ 20) × (length (decimal_of l.rest) ≤ l.i) × (decimal_of l.rest ++ drop l.i l.digits ≡ decimal_of l.n)

abbrev pub decreases-loop-rest : goal.decreases-loop-rest
decreases-loop-rest l = l.rest
