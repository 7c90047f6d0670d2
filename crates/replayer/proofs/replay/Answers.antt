-- `replay` meets its contract: what stands in the local array is the replay, which is copied where it fits.
use native.Mathlib.Omega.{arith}
use Rattle.text.specs.Within.{text_taken, text_within, text_short, text_fits}
use Rattle.replayer.proofs.replay.Goals as goal

pub returns-then-out-n : goal.returns-then-out-n
returns-then-out-n c =
    let l = c.lines-n.ensures in
    let t = text_short l _ c.if-out-n.true in
    record { answer = t.0; bytes = t.1; bound = text_within l }

pub slice_bounds-put-end : goal.slice_bounds-put-end
slice_bounds-put-end c = text_taken c.lines-n.ensures

pub put-requires : goal.put-requires
put-requires c = omega (arith, text_taken c.lines-n.ensures)

pub returns : goal.returns
returns c =
    let l = c.lines-n.ensures in
    let t = text_fits l _ c.if-out-n.false c.put.ensures in
    record { answer = t.0; bytes = t.1; bound = text_within l }
