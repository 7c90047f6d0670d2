-- `sender_checking::numbers_wrong` meets its contract: its loop's flag is raised where low's place or a place before it is wrong.
use native.Mathlib.Omega.{arith}
use Rattle.common.specs.EveryLaws.{raised_none, raised_more}
use Rattle.sender_checking.proofs.Placed.{number_placed_lem, numbers_raised}
use Rattle.sender_checking.proofs.numbers_wrong.Goals as goal

pub loop-j-init : goal.loop-j-init
loop-j-init c = raised_none _ _

pub loop-j-preserved : goal.loop-j-preserved
loop-j-preserved c = raised_more _ _ _ _ _ c.loop-j.invariant (number_placed_lem 32 _ _ _ _ _ _ _ c.past.ensures c.count-count.ensures c.number_wrong-wrong.ensures)

pub returns : goal.returns
returns c = numbers_raised 32 _ _ _ _ _ _ _ (omega arith) c.place-lowat.ensures.0 c.passes-wrong.ensures c.loop-j.invariant
