-- `coder::size` meets its contract. The bytes counted, and those of the vector from place i on, give the whole vector.
-- Assumes nothing.
use native.Mathlib.Omega.{arith}
use Rattle.coder.proofs.Turns.{after_further, size_more, size_end}
use Rattle.coder.proofs.size.Goals as goal

pub loop-i-smaller : goal.loop-i-smaller
loop-i-smaller c =
    let h = after_further c.args.states.now c.loop-i.i (omega arith) in
    omega (arith, c.place_after-i.ensures)

pub loop-i-preserved : goal.loop-i-preserved
loop-i-preserved c =
    let ss = c.args.states.now in
    let l = c.loop-i in
    let h = after_further ss l.i (omega arith) in (
      omega (arith, c.place_after-i.ensures),
      omega (arith, c.place_after-i.ensures),
      rw c.place_after-i.ensures (size_more ss l.i l.n _ l.invariant.2 (omega arith)),
    )

pub returns : goal.returns
returns c =
    let l = c.loop-i in
    size_end c.args.states.now l.i l.n _ l.invariant.2 (omega arith)
