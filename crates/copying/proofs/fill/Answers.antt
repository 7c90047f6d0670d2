-- `parts::fill` meets its contract: behind the prefix it is `copy_part`'s, from the prefix on Front's.
use Rattle.copying.proofs.Front.{front_laid, nothing_laid}
use Rattle.copying.proofs.fill.Goals as goal

pub returns-then-n-gt0 : goal.returns-then-n-gt0
returns-then-n-gt0 c = front_laid _ _ _ _ c.if-from-gt0.false _ _ c.requires.0 c.if-n-gt0.true c.requires.2 c.byte_at.ensures c.copy_part-then-n-gt0.ensures

pub returns-else-n-gt0 : goal.returns-else-n-gt0
returns-else-n-gt0 c = nothing_laid _ _ _ _ c.if-from-gt0.false c.if-n-gt0.false
