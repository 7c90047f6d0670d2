-- The loop of taking: what each call ensures is one step more of `after` and `answered`.
use mathlib.Core.Path.{◌≡◌}
use lib.ListN.{length}
use Rattle.repeating.specs.Calls.{each_time}
use Rattle.repeating.proofs.Going.{Going}
use Rattle.repeating.specs.Steps.{taking_of, take_step, take_number}
use Rattle.repeated_take.proofs.take.Given as goal

abbrev pub invariant-loop-turn : goal.invariant-loop-turn
invariant-loop-turn l = (length l.out ≡ length l.initial.out)
    × Going (each_time (take_step l.store)) (each_time (take_number l.store)) (taking_of l.initial.x.receiver l.initial.out) (taking_of l.x.receiver l.out) l.initial.answers l.answers l.turn
