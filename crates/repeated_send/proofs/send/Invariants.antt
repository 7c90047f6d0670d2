-- The loop of sending: what each call ensures is one step more of `after` and `answered`.
use mathlib.Core.Path.{◌≡◌}
use lib.ListN.{length}
use Rattle.repeating.specs.Calls.{start_of, on_part}
use Rattle.repeating.proofs.Going.{Going}
use Rattle.repeating.specs.Steps.{sending_of, send_step, send_number}
use Rattle.repeated_send.proofs.send.Given as goal

abbrev pub invariant-loop-i : goal.invariant-loop-i
invariant-loop-i l = (length l.store ≡ length l.initial.store) × (length l.out ≡ length l.initial.out) × (l.from ≡ start_of l.bytes l.ends l.i)
    × Going (on_part (send_step l.tick) l.bytes l.ends) (on_part send_number l.bytes l.ends) (sending_of l.initial.q l.initial.store l.initial.out) (sending_of l.q l.store l.out) l.initial.answers l.answers l.i
