-- The loop of sending: what each call ensures is one step more of `after` and `answered`.
use Prim.Native.Nat.{min}
use mathlib.Core.Path.{◌≡◌, ◌∙◌, ap}
use native.Mathlib.Omega.{arith}
use lib.ListN.{length}
use borrow.Author.Rules.{rules}
use Rattle.repeating.specs.Calls.{start_none, start_more, start_within, part_is}
use Rattle.repeating.proofs.Going.{going_none, going_more, going_state, going_answers}
use Rattle.repeating.proofs.Stepped.{send_steps}
use Rattle.repeating.specs.Steps.{written_number}
use Rattle.repeated_send.proofs.send.Goals as goal

pub loop-i-init : goal.loop-i-init
loop-i-init c = (search rules, search rules, start_none _ _, going_none _ _ _ _)

pub slice_bounds-send-end : goal.slice_bounds-send-end
slice_bounds-send-end c = omega (arith, start_within c.args.bytes.now c.args.ends.now c.loop-i.i)

pub loop-i-preserved : goal.loop-i-preserved
loop-i-preserved c =
    let a = c.args in
    let l = c.loop-i in
    let ended = start_more a.bytes.now a.ends.now l.i _ _ l.invariant.2 c.end_of-end.ensures in
    let part = part_is a.bytes.now a.ends.now l.i _ _ l.invariant.2 ended in
    (search rules, search rules, ended, going_more _ _ _ _ _ _ _ _ _ l.invariant.3 (send_steps 32 _ _ _ _ _ l.out _ _ _ _ _ part c.send-x.ensures.«record» c.send-x.ensures.kept c.send-x.ensures.bytes) (c.number.ensures ∙ ap written_number (rw part at c.send-x.ensures.answer)))

pub returns : goal.returns
returns c =
    let l = c.loop-i in
    let e : l.i ≡ min (length c.args.ends.now) (length c.args.answers.now) = omega arith in
    record { «record» = going_state _ l.invariant.3 e; answers = going_answers _ l.invariant.3 e }
