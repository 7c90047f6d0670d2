-- `decode` meets its contract: at each turn of the loop, the bytes before place i are those that the text is.
use native.Mathlib.Omega.{arith}
use borrow.Author.Rules.{rules}
use lib.Seq.{paste-zero}
use Rattle.trace.specs.Hex.{hex_bytes}
use Rattle.trace.proofs.Decoded.{decode_more, decode_done}
use Rattle.trace_data.proofs.decode.Goals as goal

pub loop-i-init : goal.loop-i-init
loop-i-init c = (search rules, search rules, paste-zero _ 0 (hex_bytes c.args.text.now))

pub loop-i-preserved : goal.loop-i-preserved
loop-i-preserved c =
    let a = c.args in
    let l = c.loop-i in
    (search rules, search rules, decode_more a.text.now a.out.now l.i (omega arith) (omega arith) l.invariant.2 c.digit_value.ensures.0 c.digit_value-in-loop-i.ensures.0)

pub returns : goal.returns
returns c = decode_done c.args.text.now c.args.out.now c.loop-i.i (omega arith) c.loop-i.invariant.2
