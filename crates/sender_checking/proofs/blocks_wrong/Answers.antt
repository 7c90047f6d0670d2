-- `sender_checking::blocks_wrong` meets its contract: its loop's flag is raised where channel low's place or a place before it is wrong.
use mathlib.Core.Path.{refl}
use native.Mathlib.Omega.{arith}
use Rattle.common.specs.EveryLaws.{raised_none, raised_more}
use Rattle.sender_checking.proofs.Placed.{block_placed_lem, blocks_raised}
use Rattle.sender_checking.proofs.blocks_wrong.Goals as goal

pub loop-k-init : goal.loop-k-init
loop-k-init c = raised_none _ _

pub loop-k-preserved : goal.loop-k-preserved
loop-k-preserved c = raised_more _ _ _ _ _ c.loop-k.invariant (block_placed_lem 32 _ _ _ _ _ _ _ _ c.past.ensures c.count-count.ensures c.block_wrong-wrong.ensures)

pub returns : goal.returns
returns c = blocks_raised 32 _ _ _ _ _ c.loop-k.k _ _ (omega arith) c.place-lowat.ensures.0 c.loop-k.invariant refl
