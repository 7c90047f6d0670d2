-- `turning::turn` meets its contract: each way out is an instance of a law.
use Prim.Native.Nat.{◌-◌}
use mathlib.Core.Path.{◌≡◌, refl, sym, ◌∙◌}
use native.Mathlib.Omega.{arith}
use borrow.Author.Rules.{rules}
use borrow.Author.Tests.{eq-eqb, ne_eqb}
use Rattle.turning.specs.Chosen.{chosen_by}
use Rattle.sender.specs.Turn.{numbers_moved}
use Rattle.turning.proofs.Turned.{turn_none, turn_step, turn_skip, turn_all, turned_low, numbers_more, numbers_stopped, numbers_ended, moved_channellow, blocks_more, blocks_stop, blocks_end, turned_whole}
use Rattle.turning.proofs.turn.Goals as goal
use Rattle.turning.proofs.turn.Goals.{then-turns, else-turns, else-loop-test, then-loop-test+then-not-passes}

pub loop-n-init : goal.loop-n-init
loop-n-init c = turn_none 32 _ _ _ _ (let z : c.args.s.low.0 - c.args.s.low.0 ≡ 0 = omega arith in z)

pub loop-n-preserved : goal.loop-n-preserved
unfolding chosen_by
loop-n-preserved c = elim c.if-turns.branch [ then-turns w ↦ rw (w.place-blockat.ensures.0, c.place-at.ensures.0) at w.q-is ∙ turn_step 32 _ _ c.args.s c.loop-n.q c.loop-n.n c.loop-n.auto.n c.loop-n.invariant (sym (rw c.place-at.ensures.0 at c.turns.ensures) ∙ w.if-turns.true) | else-turns w ↦ w.q-is ∙ turn_skip 32 _ _ c.args.s c.loop-n.q c.loop-n.n c.loop-n.auto.n c.loop-n.invariant (sym (rw c.place-at.ensures.0 at c.turns.ensures) ∙ w.if-turns.false) ]

pub overflow_add-after : goal.overflow_add-after
overflow_add-after c = let e = turned_low 32 (record { number = c.args.number; block = c.args.block }) (chosen_by 32 c.args.flags c.args.upto) c.args.s c.loop-n.q (c.loop-n.n - c.args.s.low.0) c.loop-n.invariant in omega arith

pub loop-preserved : goal.loop-preserved
loop-preserved c = (search rules, numbers_more 32 _ _ c.loop.q _ (omega arith) c.place-at-in-loop.ensures.0 (sym (rw c.place-at-in-loop.ensures.0 at c.passes.ensures) ∙ c.if-not-passes.false) ∙ c.loop.invariant.1)

pub returns-then-b-ne-ACKNOWLEDGED : goal.returns-then-b-ne-ACKNOWLEDGED
returns-then-b-ne-ACKNOWLEDGED c = let ex : c.loop.q ≡ numbers_moved 32 32 c.loop-n.q =
    elim c.loop-test.branch [ else-loop-test w ↦ numbers_ended 32 _ _ c.loop.counter c.loop.invariant.1 (omega arith) | then-loop-test+then-not-passes w ↦ numbers_stopped 32 _ _ c.loop.counter _ c.loop.invariant.1 (rw w.place-at-in-loop.ensures.0 at w.passes.ensures) w.if-not-passes.true ] in
    turned_whole 32 _ _ _ c.loop-n.q c.loop.q _ 32 refl (turn_all 32 _ _ _ c.loop-n.q (c.loop-n.n - c.args.s.low.0) c.requires c.loop-n.invariant (omega (arith, c.requires.low))) ex (blocks_stop 32 _ c.loop-2.q (rw c.place-at-in-loop-2.ensures.0 at (ne_eqb _ _ c.if-b-ne-ACKNOWLEDGED.true)) ∙ c.loop-2.invariant.1)

pub overflow_add-after-in-loop-2 : goal.overflow_add-after-in-loop-2
overflow_add-after-in-loop-2 c = let ex : c.loop.q ≡ numbers_moved 32 32 c.loop-n.q =
    elim c.loop-test.branch [ else-loop-test w ↦ numbers_ended 32 _ _ c.loop.counter c.loop.invariant.1 (omega arith) | then-loop-test+then-not-passes w ↦ numbers_stopped 32 _ _ c.loop.counter _ c.loop.invariant.1 (rw w.place-at-in-loop.ensures.0 at w.passes.ensures) w.if-not-passes.true ] in
    let e = moved_channellow 32 (record { number = c.args.number; block = c.args.block }) (chosen_by 32 c.args.flags c.args.upto) c.args.s c.loop-n.q c.loop.q (c.loop-n.n - c.args.s.low.0) c.loop-n.invariant ex in omega arith

pub loop-2-preserved : goal.loop-2-preserved
loop-2-preserved c = (search rules, blocks_more 32 _ _ c.loop-2.q _ (omega arith) c.place-at-in-loop-2.ensures.0 (rw c.place-at-in-loop-2.ensures.0 at (eq-eqb _ _ c.if-b-ne-ACKNOWLEDGED.false)) ∙ c.loop-2.invariant.1)

pub returns : goal.returns
returns c = let ex : c.loop.q ≡ numbers_moved 32 32 c.loop-n.q =
    elim c.loop-test.branch [ else-loop-test w ↦ numbers_ended 32 _ _ c.loop.counter c.loop.invariant.1 (omega arith) | then-loop-test+then-not-passes w ↦ numbers_stopped 32 _ _ c.loop.counter _ c.loop.invariant.1 (rw w.place-at-in-loop.ensures.0 at w.passes.ensures) w.if-not-passes.true ] in
    turned_whole 32 _ _ _ c.loop-n.q c.loop.q _ 32 refl (turn_all 32 _ _ _ c.loop-n.q (c.loop-n.n - c.args.s.low.0) c.requires c.loop-n.invariant (omega (arith, c.requires.low))) ex (blocks_end 32 (32 - c.loop-2.counter) c.loop-2.q (omega arith) ∙ c.loop-2.invariant.1)
