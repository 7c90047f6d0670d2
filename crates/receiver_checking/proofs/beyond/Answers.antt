-- `receiver_checking::beyond` meets its contract: where room is the whole window, nothing lies past it; else its loop's flag is raised where a place before it is wrong.
use native.Mathlib.Omega.{arith}
use Rattle.common.specs.EveryLaws.{raised_none, raised_more, raised_once}
use Rattle.receiver_checking.proofs.Consistency.{held_high, all_low}
use Rattle.receiver_checking.proofs.beyond.Goals as goal

pub returns-then-room-ge-WHOLE : goal.returns-then-room-ge-WHOLE
returns-then-room-ge-WHOLE c = all_low 32 _ _ _ c.if-room-ge-WHOLE.true

pub loop-k-init : goal.loop-k-init
loop-k-init c = raised_none _ _

pub loop-k-preserved : goal.loop-k-preserved
loop-k-preserved c = raised_more _ _ _ _ _ c.loop-k.invariant (held_high 32 _ _ _ _ _ c.past.ensures)

pub returns : goal.returns
returns c = raised_once _ 32 _ _ (omega arith) c.loop-k.invariant
