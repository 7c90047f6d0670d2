-- The loop of acknowledgements: what each call ensures is one step more of `after` and `answered`.
use mathlib.Core.Path.{◌≡◌}
use Rattle.repeating.specs.Calls.{start_of, on_part}
use Rattle.repeating.proofs.Going.{Going}
use Rattle.sender.specs.Acknowledge.{acknowledge_answer, acknowledge_of}
use Rattle.repeated_acknowledge.proofs.acknowledge.Given as goal

abbrev pub invariant-loop-i : goal.invariant-loop-i
invariant-loop-i l = (l.from ≡ start_of l.bytes l.ends l.i)
    × Going (on_part (acknowledge_of 32 32) l.bytes l.ends) (on_part (acknowledge_answer 32 32) l.bytes l.ends) l.initial.q l.q l.initial.answers l.answers l.i
