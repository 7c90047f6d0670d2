-- `resending::lowest_waiting` meets its contract: each way out is an instance of a law.
use native.Mathlib.Omega.{arith}
use borrow.Author.Tests.{eq-eqb, ne_eqb}
use Rattle.resending.proofs.OldBlock.{waiting_start, waiting_here, waiting_next, waiting_none}
use Rattle.resending.proofs.lowest_waiting.Goals as goal

pub loop-c-init : goal.loop-c-init
loop-c-init c = waiting_start 32 _

pub returns-then-b-eq-WAITING : goal.returns-then-b-eq-WAITING
returns-then-b-eq-WAITING c = waiting_here 32 _ c.loop-c.c _ (omega arith) (rw c.place-at.ensures.0 at (eq-eqb _ _ c.if-b-eq-WAITING.true)) c.loop-c.invariant

pub loop-c-preserved : goal.loop-c-preserved
loop-c-preserved c = waiting_next 32 _ c.loop-c.c _ (omega arith) (rw c.place-at.ensures.0 at (ne_eqb _ _ c.if-b-eq-WAITING.false)) c.loop-c.invariant

pub returns : goal.returns
returns c = waiting_none 32 _ c.loop-c.c _ (omega arith) c.loop-c.invariant
