-- `receiver_checking::consistent` meets its contract: each way out is an instance of a law of Consistency, and the loops' flag is raised where a place before them is wrong.
use native.Mathlib.Omega.{arith}
use borrow.Author.Rules.{rules}
use Rattle.common.specs.EveryLaws.{raised_none, raised_more, raised_twice}
use Rattle.receiver_checking.proofs.Consistency.{unmapped, mark_placed, kept_placed, bounds_told, bounds_fail, base_fails, end_fails, places_fail, beyond_fails, end_decides, end_low_lem}
use Rattle.receiver_checking.proofs.consistent.Goals as goal

pub returns-then-not-bounds_fit : goal.returns-then-not-bounds_fit
returns-then-not-bounds_fit c = bounds_fail 32 c.args.r _ c.bounds_fit.ensures c.if-not-bounds_fit.true

pub returns-then-r-at-eq1 : goal.returns-then-r-at-eq1
returns-then-r-at-eq1 c = base_fails 32 c.args.r _ c.place-at.ensures.0 c.if-r-at-eq1.true

pub overflow_add-base : goal.overflow_add-base
overflow_add-base c = omega (arith, (bounds_told c.args.r _ c.bounds_fit.ensures c.if-not-bounds_fit.false).base_fits)

pub returns-then-base-end : goal.returns-then-base-end
returns-then-base-end c = end_fails 32 c.args.r c.if-base-end.true

pub loop-i-init : goal.loop-i-init
loop-i-init c = raised_none _ _

pub loop-i-preserved : goal.loop-i-preserved
loop-i-preserved c = raised_more _ (mark_placed 32 c.args.r) _ _ _ c.loop-i.invariant (rw (c.past.ensures, c.count-span.ensures) at c.mark_wrong-wrong.ensures)

pub loop-k-init : goal.loop-k-init
loop-k-init c = (search rules, raised_none _ _)

pub loop-k-preserved : goal.loop-k-preserved
loop-k-preserved c = (search rules, raised_more _ (kept_placed c.args.r) _ _ _ c.loop-k.invariant.1 c.hold_wrong-wrong.ensures)

pub returns-then-wrong : goal.returns-then-wrong
returns-then-wrong c = places_fail 32 c.args.r _ (raised_twice _ _ 32 32 _ _ _ _ (omega arith) (omega arith) c.loop-i.invariant c.loop-k.invariant.1) c.if-wrong.true

pub returns-then-beyond : goal.returns-then-beyond
returns-then-beyond c = beyond_fails 32 c.args.r _ (rw c.count.ensures at c.beyond.ensures) c.if-beyond.true

pub returns-then-base-end-2 : goal.returns-then-base-end-2
returns-then-base-end-2 c = end_decides 32 c.args.r (search (rules, unmapped)) (search (rules, unmapped)) _ c.bounds_fit.ensures c.if-not-bounds_fit.false _ c.place-at.ensures.0 c.if-r-at-eq1.false c.if-base-end.false _ (raised_twice _ _ 32 32 _ _ _ _ (omega arith) (omega arith) c.loop-i.invariant c.loop-k.invariant.1) c.if-wrong.false _ (rw c.count.ensures at c.beyond.ensures) c.if-beyond.false _ c.if-base-end-2.true c.place-at-then-base-end-2.ensures.0

pub returns : goal.returns
returns c = end_low_lem 32 c.args.r (search (rules, unmapped)) (search (rules, unmapped)) _ c.bounds_fit.ensures c.if-not-bounds_fit.false _ c.place-at.ensures.0 c.if-r-at-eq1.false c.if-base-end.false _ (raised_twice _ _ 32 32 _ _ _ _ (omega arith) (omega arith) c.loop-i.invariant c.loop-k.invariant.1) c.if-wrong.false _ (rw c.count.ensures at c.beyond.ensures) c.if-beyond.false c.if-base-end-2.false
