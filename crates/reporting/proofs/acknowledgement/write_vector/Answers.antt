-- `receiver::acknowledgement::write_vector` meets its contract: each way out is an instance of a law of Acknowledging and Consistency and Vectors.
use native.Mathlib.Omega.{arith}
use mathlib.Core.Path.{sym, ◌∙◌, ap}
use lib.ListN.{replicate, length}
use Rattle.receiver.specs.AcknowledgeLaws.{states_length}
use Rattle.receiver.specs.Facts.{consistent_facts}
use Rattle.reporting.proofs.Vectors.{states_none, states_step, states_done, vector_coded, vector_never}
use Rattle.reporting.proofs.Acknowledging.{vector_written}
use borrow.Author.Rules.{rules}
use Rattle.reporting.proofs.acknowledgement.write_vector.Goals as goal

pub loop-i-init : goal.loop-i-init
loop-i-init c = (search rules, states_none 32 c.args.r _)

pub bounds-states-i : goal.bounds-states-i
bounds-states-i c = omega (arith, (consistent_facts 32 32 c.args.r c.requires.r_value).end_near)

pub loop-i-preserved : goal.loop-i-preserved
loop-i-preserved c = (
  search rules,
  states_step 32 c.args.r _ _ _ _
      (omega (arith, (consistent_facts 32 32 c.args.r c.requires.r_value).end_near))
      c.loop-i.invariant.1 c.place-at.ensures.0,
)

pub slice_bounds-states-end : goal.slice_bounds-states-end
slice_bounds-states-end c = omega (arith, (consistent_facts 32 32 c.args.r c.requires.r_value).end_near, c.loop-i.invariant.0)

pub slice_bounds-write-end : goal.slice_bounds-write-end
slice_bounds-write-end c =
    sym
    (ap length (states_done 32 c.args.r _ _ _ _ (omega arith) c.loop-i.invariant.1) ∙ states_length 32
    c.args.r _ _)

pub returns-in_err-k : goal.returns-in_err-k
returns-in_err-k c =
    vector_never 32 c.args.r
    c.requires.r_value _
    (states_done 32 c.args.r _ _ _ _ (omega arith)
    c.loop-i.invariant.1) _ (replicate 32 0) _ (omega arith) c.write.ensures.answer
    c.write.ensures.bytes _ c.in_err-k.was

pub overflow_cast-values : goal.overflow_cast-values
overflow_cast-values c =
    omega (
      arith,
      (vector_coded 32 c.args.r c.requires.r_value _ (states_done 32 c.args.r _ _ _ _ (omega arith) c.loop-i.invariant.1) c.write.result (replicate 32 0) _ (omega arith)
          c.write.ensures.answer c.write.ensures.bytes _ c.in_ok-k.was).fits,
    )

pub slice_bounds-write-end-4 : goal.slice_bounds-write-end-4
slice_bounds-write-end-4 c =
    let v = vector_coded 32 c.args.r c.requires.r_value _ (states_done 32 c.args.r _ _ _ _ (omega arith) c.loop-i.invariant.1) _ (replicate 32 0) _ (omega arith)
    c.write.ensures.answer c.write.ensures.bytes _ c.in_ok-k.was in
    v.size ∙ ap length (sym v.same)

pub slice_bounds-coded-end : goal.slice_bounds-coded-end
slice_bounds-coded-end c =
    (vector_coded 32 c.args.r
    c.requires.r_value _
    (states_done 32 c.args.r _ _ _ _ (omega arith)
    c.loop-i.invariant.1) _ (replicate 32 0) _ (omega arith)
    c.write.ensures.answer c.write.ensures.bytes _ c.in_ok-k.was).within

pub returns : goal.returns
returns c =
    let v = vector_coded 32 c.args.r
    c.requires.r_value _
    (states_done 32 c.args.r _ _
    _ _ (omega arith) c.loop-i.invariant.1) _
    (replicate 32 0) _ (omega arith) c.write.ensures.answer
    c.write.ensures.bytes _
    c.in_ok-k.was in
    let both = vector_written 32 c.args.r _ _ _
    c.args.out.now _ _ v (omega (arith, v.fits)) c.write-2.ensures.answer c.write-2.ensures.bytes (search rules) in record { answer = both.0; bytes = both.1 }
