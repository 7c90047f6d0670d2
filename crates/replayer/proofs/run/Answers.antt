-- `run` meets its contract: what was written so far and what the lines that are left write is, at each turn of the loop, the whole.
use mathlib.Core.Path.{refl}
use native.Mathlib.Omega.{arith}
use borrow.Author.Rules.{rules}
use lib.ListN.{length-take, length-drop}
use Rattle.trace_state.specs.Steps.{end_text}
use Rattle.replayer.proofs.AllLines.{ran_start, ran_room, ran_line, ran_next, ran_end}
use Rattle.replayer.proofs.run.Goals as goal

pub loop-from-init : goal.loop-from-init
loop-from-init c = (ran_start _ _ _ _ c.begin-state.ensures, refl, refl)

pub slice_bounds-step-count : goal.slice_bounds-step-count
slice_bounds-step-count c = omega (arith, c.find-end.ensures)

pub slice_bounds-step-start : goal.slice_bounds-step-start
slice_bounds-step-start c = omega (arith, c.find-end.ensures)

pub slice_bounds-step-end : goal.slice_bounds-step-end
slice_bounds-step-end c = omega (arith, c.find-end.ensures, ran_line c.loop-from.invariant.0 c.requires.0 c.requires.1 c.loop-from-test.true)

pub step-x-requires : goal.step-x-requires
step-x-requires c = (omega (arith, ran_room c.loop-from.invariant.0 c.requires.0 c.requires.1), simp (length-take, length-drop) (omega (arith, c.requires.0)))

pub overflow_add-from : goal.overflow_add-from
overflow_add-from c = omega (arith, c.find-end.ensures, ran_line c.loop-from.invariant.0 c.requires.0 c.requires.1 c.loop-from-test.true, c.requires.0)

pub loop-from-smaller : goal.loop-from-smaller
loop-from-smaller c = omega (arith, c.find-end.ensures, ran_line c.loop-from.invariant.0 c.requires.0 c.requires.1 c.loop-from-test.true)

pub loop-from-preserved : goal.loop-from-preserved
loop-from-preserved c = (ran_next c.loop-from.invariant.0 c.requires.0 c.requires.1 c.loop-from-test.true c.find-end.ensures refl c.step-x.ensures, search rules, search rules)

pub finish-requires : goal.finish-requires
finish-requires c = ran_room c.loop-from.invariant.0 c.requires.0 c.requires.1

pub returns : goal.returns
unfolding end_text
returns c = ran_end c.loop-from.invariant.0 c.requires.0 c.requires.1 c.loop-from-test.false c.finish.ensures
