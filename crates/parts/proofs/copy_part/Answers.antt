-- `parts::copy_part` meets its contract: each way out is an instance of a law of Copied.
use Rattle.parts.proofs.Copied.{part_behind, part_before, copied_plain, copied_over}
use Rattle.parts.proofs.copy_part.Goals as goal

pub returns-then-k-n : goal.returns-then-k-n
returns-then-k-n c = copied_over _ _ _ _ _ _ c.put.ensures c.requires.1 c.if-at-le7.true c.if-k-n.true c.requires.2 c.requires.3

pub returns-else-k-n : goal.returns-else-k-n
returns-else-k-n c = copied_plain _ _ _ _ _ _ c.put.ensures (part_before _ _ _ c.requires.1 c.if-at-le7.true c.if-k-n.false)

pub returns-else-at-le7 : goal.returns-else-at-le7
returns-else-at-le7 c = copied_plain _ _ _ _ _ _ c.put.ensures (part_behind _ _ _ c.if-at-le7.false)
