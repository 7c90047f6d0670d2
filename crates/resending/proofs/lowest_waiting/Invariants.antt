-- `resending::lowest_waiting` meets its contract: each way out is an instance of a law.
use Prim.Native.Nat.{◌-◌}
use mathlib.Core.Path.{◌≡◌}
use Rattle.sender.specs.Send.{waiting_from, lowest_waiting}
use Rattle.resending.proofs.lowest_waiting.Given as goal

abbrev pub invariant-loop-c : goal.invariant-loop-c
invariant-loop-c l = waiting_from 32 l.s l.c (l.s.channelnext.0 - l.c) ≡ lowest_waiting 32 l.s
