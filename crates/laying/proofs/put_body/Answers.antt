-- `laying::put_body` meets its contract: each way out is an instance of a law of Given.
use native.Mathlib.Omega.{arith}
use mathlib.Core.List.{◌++◌}
use Rattle.common.specs.Laid.{laid_then}
use Rattle.wire.specs.Write.{word_bytes}
use Rattle.laying.proofs.Given.{given_room, laid_on, laid_off}
use Rattle.laying.proofs.put_body.Goals as goal

pub returns-then-flag : goal.returns-then-flag
returns-then-flag c = laid_on _ _ c.if-flag.true (laid_then (omega (arith, given_room _ (word_bytes c.args.channel ++ c.args.body.now) _ _ c.if-flag.true c.requires)) c.put_word-rest.ensures c.lay.ensures)

pub returns-else-flag : goal.returns-else-flag
returns-else-flag c = laid_off _ _ _ _ c.if-flag.false
