-- Each way out of the call is a law of Acked: not consistent, not read, a dummy, judged and refused, judged and turned.
use mathlib.Core.Path.{sym, ◌∙◌}
use native.Mathlib.Omega.{arith}
use Rattle.turning.specs.Turnable.{turnable}
use Rattle.acknowledging.proofs.Acked.{ack_unfit, ack_refused, ack_dummy, ack_kept, ack_turned}
use Rattle.acknowledging.proofs.acknowledge.Goals as goal

pub returns-then-not-consistent : goal.returns-then-not-consistent
returns-then-not-consistent c = let both = ack_unfit 32 _ _ (sym c.consistent.ensures ∙ c.if-not-consistent.true) in record { answer = both.0; «record» = both.1 }

pub returns-in-Err : goal.returns-in-Err
returns-in-Err c = let both = ack_refused 32 _ _ _ (sym c.consistent.ensures ∙ c.if-not-consistent.false) c.in-Err.ensures in record { answer = both.0; «record» = both.1 }

pub returns-in-Ok-None : goal.returns-in-Ok-None
returns-in-Ok-None c = let both = ack_dummy 32 _ _ (sym c.consistent.ensures ∙ c.if-not-consistent.false) (rw c.in-Ok-None.field-0-is at c.in-Ok-None.ensures) in record { answer = both.0; «record» = both.1 }

pub judge-requires : goal.judge-requires
judge-requires c = (sym c.consistent.ensures ∙ c.if-not-consistent.false, sym (rw c.in-Ok-Some.field-0-is at c.in-Ok-Some.ensures))

pub returns-in-Err-judge : goal.returns-in-Err-judge
returns-in-Err-judge c =
    let both = ack_kept 32 _ _ _ _ (sym c.consistent.ensures ∙ c.if-not-consistent.false) (rw c.in-Ok-Some.field-0-is at c.in-Ok-Some.ensures) c.in-Err-judge.ensures.answer in record { answer = both.0; «record» = both.1 }

pub turn-q-requires : goal.turn-q-requires
turn-q-requires c = turnable 32 32 _ (omega arith) (omega arith) (sym c.consistent.ensures ∙ c.if-not-consistent.false)

pub returns-in-Ok : goal.returns-in-Ok
returns-in-Ok c =
    let both = ack_turned 32 _ _ _ _ _ (sym c.consistent.ensures ∙ c.if-not-consistent.false) (rw c.in-Ok-Some.field-0-is at c.in-Ok-Some.ensures)
    c.in-Ok.ensures.answer c.in-Ok.ensures.applied c.turn-q.ensures in record { answer = both.0; «record» = both.1 }
