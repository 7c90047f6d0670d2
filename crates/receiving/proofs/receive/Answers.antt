-- `receiving::receive` meets its contract: each way out is an instance of a law.
use mathlib.Core.Path.{sym, ◌∙◌}
use native.Mathlib.Omega.{arith}
use Rattle.turning.specs.Turnable.{turnable}
use Rattle.receiving.proofs.Receiving.{wrong_size, sender_unfit, receiver_unfit, read_refused, read_dummy, told_refused, number_refused, accepted_silent, accepted_told}
use Rattle.receiving.proofs.receive.Goals as goal
use Rattle.receiving.proofs.receive.Goals.{then-store-ne-STORE-via-then-store-ne-STORE, then-store-ne-STORE-via-else-store-ne-STORE+then-not-consistent, then-store-ne-STORE-via-else-store-ne-STORE+else-not-consistent+then-not-consistent-2}

pub returns-then-store-ne-STORE : goal.returns-then-store-ne-STORE
returns-then-store-ne-STORE c =
    elim c.then-store-ne-STORE.branch [
      | then-store-ne-STORE-via-then-store-ne-STORE w ↦ let g = wrong_size 32 c.args.s c.args.r c.args.store.now c.args.d.now w.if-store-ne-STORE.true in record { answer = g.0; sender = g.1.0; receiver = g.1.1.0; bytes = g.1.1.1 }
      | then-store-ne-STORE-via-else-store-ne-STORE+then-not-consistent w ↦ let g = sender_unfit 32 c.args.s c.args.r c.args.store.now c.args.d.now (sym w.consistent.ensures ∙ w.if-not-consistent.true) in record { answer = g.0; sender = g.1.0; receiver = g.1.1.0; bytes = g.1.1.1 }
      | then-store-ne-STORE-via-else-store-ne-STORE+else-not-consistent+then-not-consistent-2 w ↦
          let g = receiver_unfit 32 c.args.s c.args.r c.args.store.now c.args.d.now (sym w.consistent-else-not-consistent.ensures ∙ w.if-not-consistent-2.true) in record { answer = g.0; sender = g.1.0; receiver = g.1.1.0; bytes = g.1.1.1 }
    ]

pub judge-requires : goal.judge-requires
judge-requires c = ((sym c.consistent.ensures ∙ c.if-not-consistent.false), sym (rw c.in-Ok-Some.field-0-is at c.in-Ok-Some.ensures))

pub returns-in-Err-judge : goal.returns-in-Err-judge
returns-in-Err-judge c = let g = told_refused 32 _ _ _ _ (sym c.consistent.ensures ∙ c.if-not-consistent.false) (sym c.consistent-else-not-consistent.ensures ∙ c.if-not-consistent-2.false) c.if-store-ne-STORE.false _ c.read.ensures _ (rw c.in-Ok-Some.field-0-is at c.in-Ok-Some.is) _ c.judge.ensures.answer _ c.in-Err-judge.is in record { answer = g.0; sender = g.1.0; receiver = g.1.1.0; bytes = g.1.1.1 }

pub returns-in-Err-judge-2 : goal.returns-in-Err-judge-2
returns-in-Err-judge-2 c = let g = number_refused 32 _ _ _ _ (sym c.consistent.ensures ∙ c.if-not-consistent.false) (sym c.consistent-else-not-consistent.ensures ∙ c.if-not-consistent-2.false) c.if-store-ne-STORE.false _ c.read.ensures _ (rw c.in-Ok-Some.field-0-is at c.in-Ok-Some.is) _ c.judge.ensures.answer _ c.in-Ok.is _ c.judge-in-Ok-Some.ensures _ c.in-Err-judge-2.is in record { answer = g.0; sender = g.1.0; receiver = g.1.1.0; bytes = g.1.1.1 }

pub returns-then-not-tells : goal.returns-then-not-tells
returns-then-not-tells c =
    let g = accepted_silent 32 _ _ _ _ (sym c.consistent.ensures ∙ c.if-not-consistent.false) (sym c.consistent-else-not-consistent.ensures ∙ c.if-not-consistent-2.false) c.if-store-ne-STORE.false _ c.read.ensures _ (rw c.in-Ok-Some.field-0-is at c.in-Ok-Some.is) _ c.judge.ensures.answer _ c.in-Ok.is _ c.judge-in-Ok-Some.ensures _ _ _ _ c.in-Ok-judge.is c.tells.ensures c.if-not-tells.true c.apply-q.ensures.«record» c.apply-q.ensures.bytes in record { answer = g.0; sender = g.1.0; receiver = g.1.1.0; bytes = g.1.1.1 }

pub turn-t-requires : goal.turn-t-requires
turn-t-requires c = turnable 32 32 _ (omega arith) (omega arith) (sym c.consistent.ensures ∙ c.if-not-consistent.false)

pub returns-in-Err : goal.returns-in-Err
returns-in-Err c = let g = read_refused 32 _ _ _ _ (sym c.consistent.ensures ∙ c.if-not-consistent.false) (sym c.consistent-else-not-consistent.ensures ∙ c.if-not-consistent-2.false) c.if-store-ne-STORE.false _ c.read.ensures _ c.in-Err.is in record { answer = g.0; sender = g.1.0; receiver = g.1.1.0; bytes = g.1.1.1 }

pub returns-in-Ok-None : goal.returns-in-Ok-None
returns-in-Ok-None c = let g = read_dummy 32 _ _ _ _ (sym c.consistent.ensures ∙ c.if-not-consistent.false) (sym c.consistent-else-not-consistent.ensures ∙ c.if-not-consistent-2.false) c.if-store-ne-STORE.false _ c.read.ensures (rw c.in-Ok-None.field-0-is at c.in-Ok-None.is) in record { answer = g.0; sender = g.1.0; receiver = g.1.1.0; bytes = g.1.1.1 }

pub returns-else-not-tells : goal.returns-else-not-tells
returns-else-not-tells c =
    let g = accepted_told 32 _ _ _ _ (sym c.consistent.ensures ∙ c.if-not-consistent.false) (sym c.consistent-else-not-consistent.ensures ∙ c.if-not-consistent-2.false) c.if-store-ne-STORE.false _ c.read.ensures _ (rw c.in-Ok-Some.field-0-is at c.in-Ok-Some.is) _ c.judge.ensures.answer _ c.in-Ok.is _ c.judge-in-Ok-Some.ensures _ _ _ _ c.in-Ok-judge.is c.judge.ensures.applied c.turn-t.ensures c.apply-q.ensures.«record» c.apply-q.ensures.bytes in record { answer = g.0; sender = g.1.0; receiver = g.1.1.0; bytes = g.1.1.1 }
