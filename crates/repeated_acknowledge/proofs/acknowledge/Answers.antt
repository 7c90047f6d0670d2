-- The loop of acknowledgements: what each call ensures is one step more of `after` and `answered`.
use Prim.Native.Nat.{min}
use mathlib.Core.Path.{◌≡◌, ◌∙◌, ap}
use native.Mathlib.Omega.{arith}
use lib.ListN.{length}
use Rattle.common.specs.Answer.{number_of, number_answered}
use Rattle.sender.specs.Known.{acknowledge_known}
use Rattle.repeating.specs.Calls.{start_none, start_more, start_within, part_is}
use Rattle.repeating.proofs.Going.{going_none, going_more, going_state, going_answers}
use Rattle.repeated_acknowledge.proofs.acknowledge.Goals as goal

pub loop-i-init : goal.loop-i-init
loop-i-init c = (start_none _ _, going_none _ _ _ _)

pub slice_bounds-acknowledge-end : goal.slice_bounds-acknowledge-end
slice_bounds-acknowledge-end c = omega (arith, start_within c.args.bytes.now c.args.ends.now c.loop-i.i)

pub loop-i-preserved : goal.loop-i-preserved
loop-i-preserved c =
    let a = c.args in
    let l = c.loop-i in
    let ended = start_more a.bytes.now a.ends.now l.i _ _ l.invariant.0 c.end_of-end.ensures in
    let part = part_is a.bytes.now a.ends.now l.i _ _ l.invariant.0 ended in (
      ended,
      going_more _ _ _ _ _ _ _ _ _ l.invariant.1 (rw part at c.acknowledge-x.ensures.«record»)
          (c.number.ensures ∙ ap number_of (rw part at c.acknowledge-x.ensures.answer) ∙ number_answered _ (acknowledge_known 32 32 _ _)),
    )

pub returns : goal.returns
returns c =
    let l = c.loop-i in
    let e : l.i ≡ min (length c.args.ends.now) (length c.args.answers.now) = omega arith in
    record { «record» = going_state _ l.invariant.1 e; answers = going_answers _ l.invariant.1 e }
