-- `marking::lift` meets its contract: each way out is an instance of a law of Moving.
use native.Mathlib.Omega.{arith}
use borrow.Author.Rules.{rules}
use Rattle.marking.proofs.Moving.{cleared_more, lift_early, lift_done}
use Rattle.marking.proofs.lift.Goals as goal

pub returns-then-v-base : goal.returns-then-v-base
returns-then-v-base c = (lift_early 32 _ _ _ _ c.loop.invariant.1 c.if-v-base.true, omega arith)

pub loop-preserved : goal.loop-preserved
loop-preserved c = (search rules, cleared_more 32 _ _ _ _ _ _ (omega arith) c.place-at.ensures.0 c.if-v-base.false c.loop.invariant.1)

pub returns : goal.returns
returns c = (lift_done 32 _ _ _ _ _ c.loop.invariant.1 (omega arith) c.max.ensures, omega arith)
