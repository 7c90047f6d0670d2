-- `numbers::age` meets its contract: each way out is an instance of a law of Laws.
use Rattle.std.proofs.Common.{arith}
use Rattle.numbers.proofs.Laws.{age_old, age_young}
use Rattle.numbers.proofs.age.Goals as goal

pub returns-then-passed-lt2147483648 : goal.returns-then-passed-lt2147483648
returns-then-passed-lt2147483648 c = age_young _ _ _ (omega arith) c.if-passed-lt2147483648.true

pub returns-else-passed-lt2147483648 : goal.returns-else-passed-lt2147483648
returns-else-passed-lt2147483648 c = age_old _ _ _ (omega arith) c.if-passed-lt2147483648.false
