-- `laying::put_delay` meets its contract: each way out is an instance of a law of Given.
use native.Mathlib.Omega.{arith}
use Rattle.common.specs.Laid.{laid_then}
use Rattle.wire.specs.Write.{delay_bytes}
use Rattle.laying.proofs.Given.{given_room, laid_on, laid_off}
use Rattle.laying.proofs.put_delay.Goals as goal

pub returns-then-flag : goal.returns-then-flag
returns-then-flag c = laid_on _ _ c.if-flag.true (laid_then (omega (arith, given_room _ (delay_bytes c.args.delay) _ _ c.if-flag.true c.requires)) c.lay_byte-timeout.ensures c.put_word.ensures)

pub returns-else-flag : goal.returns-else-flag
returns-else-flag c = laid_off _ _ _ _ c.if-flag.false
