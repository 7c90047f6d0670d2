-- `coder::fill` meets its contract. The bytes still to be laid from place i on, over what stands, give the whole; each turn lays one of them.
-- Assumes nothing.
use mathlib.Core.Path.{ap}
use native.Mathlib.Omega.{arith}
use lib.ListN.{length}
use borrow.Author.Rules.{rules}
use Rattle.coder.proofs.Turns.{after_further, vector_place_lem, fill_room, fill_more, fill_end}
use Rattle.coder.proofs.fill.Goals as goal

pub bounds-out-j : goal.bounds-out-j
bounds-out-j c =
    let ss = c.args.states.now in
    omega (arith, ap length (vector_place_lem ss c.loop-i.i (omega arith)))

pub loop-i-smaller : goal.loop-i-smaller
loop-i-smaller c =
    let ss = c.args.states.now in
    let h = after_further ss c.loop-i.i (omega arith) in
    omega (arith, c.place_after-i.ensures)

pub loop-i-preserved : goal.loop-i-preserved
loop-i-preserved c =
    let ss = c.args.states.now in
    let l = c.loop-i in (
      omega (arith, c.place_after-i.ensures),
      search rules,
      rw c.place_after-i.ensures (fill_room ss l.out l.i l.j _ (omega arith) (omega arith)),
      rw (c.place_after-i.ensures, c.byte_at.ensures)
          (fill_more ss l.out _ l.i l.j l.invariant.3 (omega arith) (omega arith)),
    )

pub returns : goal.returns
returns c =
    let l = c.loop-i in
    fill_end c.args.states.now l.out _ l.i l.j l.invariant.3 (omega arith)
