-- `sending::used_up` meets its contract: each way out is an instance of a law.
use mathlib.Core.Path.{refl}
use borrow.Author.Tests.{lt-ltb, le-ltb}
use Rattle.common.specs.Choice.{when, unless}
use Rattle.sending.proofs.used_up.Goals as goal

pub returns-then-next-gt-HIGHEST : goal.returns-then-next-gt-HIGHEST
returns-then-next-gt-HIGHEST c = when _ _ _ _ (lt-ltb _ _ c.if-next-gt-HIGHEST.true) refl

pub returns : goal.returns
returns c = unless _ _ _ _ (le-ltb _ _ c.if-next-gt-HIGHEST.false) refl
