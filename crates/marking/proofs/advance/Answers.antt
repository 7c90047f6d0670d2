-- `marking::advance` meets its contract: each way out is an instance of a law of Moving.
use native.Mathlib.Omega.{arith}
use borrow.Author.Rules.{rules}
use Rattle.marking.proofs.Moving.{slid_more, slid_stop, slid_done}
use Rattle.marking.proofs.advance.Goals as goal

pub returns-then-next-at-ne1 : goal.returns-then-next-at-ne1
returns-then-next-at-ne1 c = slid_stop 32 _ _ _ _ c.place-at.ensures.0 c.if-next-at-ne1.true c.loop.invariant.1

pub loop-preserved : goal.loop-preserved
loop-preserved c = (search rules, slid_more 32 _ _ _ _ _ (omega arith) c.place-at.ensures.0 c.if-next-at-ne1.false c.loop.invariant.1)

pub returns : goal.returns
returns c = slid_done 32 _ _ _ (omega arith) c.loop.invariant.1
