-- `marking::advance` meets its contract: each way out is an instance of a law of Moving.
use Prim.Native.Nat.{◌+◌, ◌-◌, ◌≤◌}
use mathlib.Core.Path.{◌≡◌}
use Rattle.window.specs.Window.{slid}
use Rattle.receiver.specs.Record.{is_marked}
use Rattle.marking.specs.Marks.{win_of}
use Rattle.marking.proofs.advance.Given as goal

abbrev pub invariant-loop : goal.invariant-loop
invariant-loop l = (l.next.base.0 ≤ l.initial.next.base.0 + l.counter) × (slid 0 32 is_marked (32 - l.counter) (win_of l.next) ≡ slid 0 32 is_marked 32 (win_of l.initial.next))
