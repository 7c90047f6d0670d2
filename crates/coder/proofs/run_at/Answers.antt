-- `coder::run_at` meets its contract. The n states seen, and those alike that follow, give the run; it ends at 63, at the range's end, or at another state.
-- Assumes nothing.
use mathlib.Core.Path.{◌≡◌, sym, ◌∙◌}
use native.Mathlib.Omega.{arith}
use Rattle.coder.proofs.Turns.{run_start, run_more, run_other, run_longest}
use Rattle.coder.proofs.run_at.Goals as goal

pub loop-n-init : goal.loop-n-init
loop-n-init c = run_start _ _

pub returns-then-states-i : goal.returns-then-states-i
returns-then-states-i c =
    let a = c.args in
    let l = c.loop-n in
    run_other a.states.now _ a.i l.n _ l.invariant (omega arith) c.if-states-i.true (omega arith)

pub loop-n-preserved : goal.loop-n-preserved
loop-n-preserved c =
    let a = c.args in
    let l = c.loop-n in
    run_more a.states.now _ a.i l.n _ l.invariant (omega arith) c.if-states-i.false

pub returns : goal.returns
returns c =
    let a = c.args in
    let l = c.loop-n in
    let e : l.n ≡ c.min-longest.result = omega arith in
    sym e ∙ run_longest a.states.now _ a.i l.n _ l.invariant (omega arith)
