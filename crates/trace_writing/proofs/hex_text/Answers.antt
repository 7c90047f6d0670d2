-- `hex_text` meets its contract: at each turn of the loop, the bytes before place i are laid as text.
use native.Mathlib.Omega.{arith}
use borrow.Author.Rules.{rules}
use lib.ListN.{length-set}
use Rattle.trace.proofs.Texts.{hex_none, hex_more, hex_all}
use Rattle.trace_writing.proofs.hex_text.Goals as goal

pub loop-b-init : goal.loop-b-init
loop-b-init c = (search rules, search rules, hex_none _ _ c.args.bytes.now)

pub bounds-out-to-in-loop-b : goal.bounds-out-to-in-loop-b
bounds-out-to-in-loop-b c = simp length-set (omega arith)

pub loop-b-preserved : goal.loop-b-preserved
loop-b-preserved c =
    let l = c.loop-b in
    (simp length-set l.invariant.0, omega arith, hex_more c.args.bytes.now l.b-index (omega arith) c.requires l.invariant.1 l.invariant.2 c.digit_of.ensures c.digit_of-in-loop-b.ensures)

pub returns : goal.returns
returns c = hex_all c.args.bytes.now c.loop-b.b-index (omega arith) c.loop-b.invariant.2
