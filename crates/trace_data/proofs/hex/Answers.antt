-- `hex` meets its contract: at each turn of the loop, the bytes passed are digits, so what is left decides for the whole.
use mathlib.Core.Path.{refl, sym, ◌∙◌}
use native.Mathlib.Omega.{arith}
use Rattle.trace.proofs.Decoded.{hex_next, hex_bad, hex_done}
use Rattle.trace_data.proofs.hex.Goals as goal

pub loop-b-init : goal.loop-b-init
loop-b-init c = refl

pub returns-then-not-hex_digit : goal.returns-then-not-hex_digit
returns-then-not-hex_digit c = hex_bad _ _ (omega arith) (sym c.hex_digit.ensures ∙ c.if-not-hex_digit.true) c.loop-b.invariant

pub loop-b-preserved : goal.loop-b-preserved
loop-b-preserved c = hex_next _ _ (omega arith) (sym c.hex_digit.ensures ∙ c.if-not-hex_digit.false) c.loop-b.invariant

pub returns : goal.returns
returns c = hex_done c.args.text.now c.loop-b.b-index (omega arith) c.loop-b.invariant
