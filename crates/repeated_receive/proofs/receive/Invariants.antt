-- The loop of receiving: what each call ensures is one step more of `after` and `answered`.
use mathlib.Core.Path.{◌≡◌}
use lib.ListN.{length}
use Rattle.repeating.specs.Calls.{start_of, on_part}
use Rattle.repeating.proofs.Going.{Going}
use Rattle.endpoint.specs.Receive.{halves, receive_answer, receive_of}
use Rattle.repeated_receive.proofs.receive.Given as goal

abbrev pub invariant-loop-i : goal.invariant-loop-i
invariant-loop-i l = (length l.store ≡ length l.initial.store) × (l.from ≡ start_of l.bytes l.ends l.i)
    × Going (on_part (receive_of 32 32) l.bytes l.ends) (on_part (receive_answer 32 32) l.bytes l.ends) (halves l.initial.q l.initial.t l.initial.store) (halves l.q l.t l.store) l.initial.answers l.answers l.i
