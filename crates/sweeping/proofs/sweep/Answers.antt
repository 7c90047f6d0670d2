-- `sweeping::sweep` meets its contract: each way out is an instance of a law.
use mathlib.Core.Path.{sym, ◌∙◌}
use native.Mathlib.Omega.{arith}
use Rattle.turning.specs.Turnable.{turnable}
use Rattle.sweeping.proofs.Losing.{swept_unfit, swept_fit}
use Rattle.sweeping.proofs.sweep.Goals as goal

pub returns-then-not-consistent : goal.returns-then-not-consistent
returns-then-not-consistent c = let both = swept_unfit 32 _ _ (sym c.consistent.ensures ∙ c.if-not-consistent.true) in record { lost = both.0; «record» = both.1 }

pub judge_all-l-requires : goal.judge_all-l-requires
judge_all-l-requires c =
    let t = turnable 32 32 _ (omega arith) (omega arith) (sym c.consistent.ensures ∙ c.if-not-consistent.false) in omega (arith, t.low, t.next)

pub turn-q-requires : goal.turn-q-requires
turn-q-requires c = turnable 32 32 _ (omega arith) (omega arith) (sym c.consistent.ensures ∙ c.if-not-consistent.false)

pub returns : goal.returns
returns c =
    let both = swept_fit 32 _ _ _ _ _ (sym c.consistent.ensures ∙ c.if-not-consistent.false)
    c.judge_all-l.ensures.0 c.judge_all-l.ensures.1 c.turn-q.ensures in record { lost = both.0; «record» = both.1 }
