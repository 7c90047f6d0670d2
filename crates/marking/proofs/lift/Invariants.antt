-- `marking::lift` meets its contract: each way out is an instance of a law of Moving.
use Prim.Native.Nat.{◌+◌, ◌-◌, ◌≤◌}
use mathlib.Core.Path.{◌≡◌}
use Rattle.window.specs.Window.{cleared}
use Rattle.marking.specs.Marks.{win_of}
use Rattle.marking.proofs.lift.Given as goal

abbrev pub invariant-loop : goal.invariant-loop
invariant-loop l = (l.next.base.0 ≤ l.initial.next.base.0 + l.counter) × (cleared 0 32 (32 - l.counter) l.v.0 (win_of l.next) ≡ cleared 0 32 32 l.v.0 (win_of l.initial.next))
