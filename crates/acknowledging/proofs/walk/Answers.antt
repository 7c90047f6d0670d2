-- `acknowledging::walk` meets its contract: each way out is an instance of a law.
use mathlib.Core.Path.{refl, ◌∙◌}
use native.Mathlib.Omega.{arith}
use borrow.Author.Rules.{rules}
use Rattle.common.specs.Facts.{clash}
use Rattle.acknowledging.proofs.Walking.{byte_starts, state_walked, state_stops, byte_ends, vector_ends}
use Rattle.acknowledging.proofs.walk.Goals as goal
use Rattle.acknowledging.proofs.walk.Goals.{else-bytes-test, then-bytes-test+then-loop-i-test+then-never_sent}

pub bytes-init : goal.bytes-init
bytes-init c = (search rules, refl, refl)

pub loop-i-init : goal.loop-i-init
loop-i-init c = (omega arith, c.bytes.invariant.1, byte_starts 32 c.args.d.now c.args.at c.args.size c.bytes.j _ _ _ _ _ _ (omega arith) (omega arith) c.byte_at-b.ensures c.bytes.invariant.2)

pub overflow_add-n : goal.overflow_add-n
overflow_add-n c = omega arith

pub loop-i-preserved : goal.loop-i-preserved
loop-i-preserved c = (omega arith, c.loop-i.invariant.1, state_walked 32 _ _ c.loop-i.i _ _ _ _ _ _ _ _ _ c.place-place.ensures.0 (omega (arith, c.span-i-end.ensures)) c.state-named.ensures c.never_sent.ensures c.if-never_sent.false c.flagged-kept.ensures c.loop-i.invariant.2)

pub bytes-preserved : goal.bytes-preserved
bytes-preserved c = (omega arith, c.loop-i.invariant.1, byte_ends 32 _ _ c.loop-i.i _ _ _ _ _ (omega (arith, c.span-i-end.ensures)) c.loop-i.invariant.2)

pub returns-then-never : goal.returns-then-never
returns-then-never c =
    elim c.bytes-test.branch [
      | else-bytes-test w ↦ clash c.bytes-test.never c.if-never.true (w.never-is ∙ c.bytes.invariant.1)
      | then-bytes-test+then-loop-i-test+then-never_sent w ↦ state_stops 32 _ _ w.loop-i.i _ _ _ _ _ _ _ (omega (arith, w.span-i-end.ensures)) w.state-named.ensures w.never_sent.ensures w.if-never_sent.true w.loop-i.invariant.2
    ]

pub returns-else-never : goal.returns-else-never
returns-else-never c =
    elim c.bytes-test.branch [
      | else-bytes-test w ↦ rw w.flags-is (vector_ends 32 c.args.d.now c.args.at c.args.size c.bytes.j _ _ _ _ _ (omega arith) w.bytes-test.false c.bytes.invariant.2)
      | then-bytes-test+then-loop-i-test+then-never_sent w ↦ clash c.bytes-test.never w.never-is c.if-never.false
    ]
