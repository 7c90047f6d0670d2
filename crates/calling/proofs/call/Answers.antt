-- `call` meets its contract: what the endpoint's call ensures is what the event asks, a law for each kind.
use Prim.Native.Nat.{ℕ}
use lib.ListN.{length-replicate}
use native.Mathlib.Omega.{arith}
use mathlib.Core.Path.{refl}
use Rattle.calling.proofs.Made.{answered_by, written_by, made_in, made_send, made_resend, made_take, made_sweep, made_ack}
use Rattle.calling.proofs.call.Goals as goal

pub returns-in-1 : goal.returns-in-1
returns-in-1 c =
    made_in _ _ _ _ _ _ _ _ c.in-1.is (answered_by _ c.and.ensures c.receive-x.ensures.answer) c.receive-x.ensures.sender
    c.receive-x.ensures.receiver c.receive-x.ensures.bytes

pub returns-in-2 : goal.returns-in-2
returns-in-2 c =
    made_send _ _ _ _ _ _ _ _ (length-replicate {A = ℕ} 1232 0) c.in-2.is (written_by _ _ c.and-in-2.ensures c.send-x.ensures.answer)
    c.send-x.ensures.«record» refl c.send-x.ensures.kept

pub returns-in-3 : goal.returns-in-3
returns-in-3 c =
    made_resend _ _ _ _ _ _ _ _ (length-replicate {A = ℕ} 1232 0) c.in-3.is (written_by _ _ c.and-in-3.ensures c.resend-x.ensures.answer)
    c.resend-x.ensures.«record» refl

pub returns-in-4 : goal.returns-in-4
returns-in-4 c =
    made_take _ _ _ _ _ _ _ _ (length-replicate {A = ℕ} 1232 0) c.in-4.is (written_by _ _ c.and-in-4.ensures c.take-x.ensures.answer)
    refl c.take-x.ensures.«record»

pub returns-in-5 : goal.returns-in-5
returns-in-5 c = made_sweep _ _ _ _ _ _ _ _ c.in-5.is c.sweep-x.ensures.lost c.sweep-x.ensures.«record» refl

pub returns-in_default : goal.returns-in_default
returns-in_default c =
    made_ack _ _ _ _ _ _ _ _ (length-replicate {A = ℕ} 1232 0) (λ h. omega arith) (λ h. omega arith) (λ h. omega arith) (λ h. omega arith) (λ h. omega arith)
    (written_by _ _ c.and-in_default.ensures c.acknowledge.ensures.answer) refl refl
