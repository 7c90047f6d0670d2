-- The loop of taking: what each call ensures is one step more of `after` and `answered`.
use mathlib.Core.Path.{◌≡◌, ◌∙◌, ap}
use native.Mathlib.Omega.{arith}
use lib.ListN.{length}
use borrow.Author.Rules.{rules}
use Rattle.repeating.proofs.Going.{going_none, going_more, going_state, going_answers}
use Rattle.repeating.proofs.Stepped.{take_steps}
use Rattle.repeating.specs.Steps.{written_number}
use Rattle.repeated_take.proofs.take.Goals as goal

pub loop-turn-init : goal.loop-turn-init
loop-turn-init c = (search rules, going_none _ _ _ _)

pub loop-turn-preserved : goal.loop-turn-preserved
loop-turn-preserved c =
    let l = c.loop-turn in
    (search rules, going_more _ _ _ _ _ _ _ _ _ l.invariant.1 (take_steps 32 _ _ _ l.out _ l.turn c.take-x.ensures.«record» c.take-x.ensures.bytes) (c.number.ensures ∙ ap written_number c.take-x.ensures.answer))

pub returns : goal.returns
returns c =
    let l = c.loop-turn in
    let e : l.turn ≡ length c.args.answers.now = omega arith in
    record { «record» = going_state _ l.invariant.1 e; answers = going_answers _ l.invariant.1 e }
