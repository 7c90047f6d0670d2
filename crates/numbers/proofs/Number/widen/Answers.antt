-- `numbers::Number::widen` meets its contract: each way out is an instance of a law, as a number of the kind.
use Rattle.std.proofs.Common.{sym, ap, ◌∙◌, arith}
use Rattle.numbers.specs.declared.Widened.TheVariants.{At}
use Rattle.numbers.specs.Nearest.{half_unclear}
use Rattle.numbers.specs.Widen.{widened_as}
use Rattle.numbers.proofs.Laws.{widen_at, widen_below}
use Rattle.numbers.proofs.Number.widen.Goals as goal

pub returns-then-back : goal.returns-then-back
returns-then-back g c = ap (widened_as g.Self.Number.of) (sym (half_unclear _ _ (omega arith)))

pub returns-then-back-top : goal.returns-then-back-top
returns-then-back-top g c =
    ap At c.of.ensures ∙ ap (widened_as g.Self.Number.of) (widen_at _ _ _ _ (omega arith) (omega arith) (λ e. omega arith) c.if-back-top.true)

pub returns-else-back-top : goal.returns-else-back-top
returns-else-back-top g c = ap (widened_as g.Self.Number.of) (widen_below _ _ _ _ (omega arith) (omega arith) (λ e. omega arith) c.if-back-top.false)
