-- `acknowledging::judge` meets its contract: each way out is an instance of a law.
use mathlib.Core.Path.{refl}
use native.Mathlib.Omega.{arith}
use Rattle.turning.specs.Turnable.{turnable}
use Rattle.acknowledging.proofs.Told.{told_ack, told_vector, told_silent, vector_inside}
use Rattle.acknowledging.proofs.judge.Goals as goal

pub judge_up_to-requires : goal.judge_up_to-requires
judge_up_to-requires c = (turnable 32 32 _ (omega arith) (omega arith) c.requires.0).next

pub returns-then-flag : goal.returns-then-flag
returns-then-flag c = let r = told_ack 32 c.args.s _ _ _ _ c.flag.ensures c.if-flag.true c.judge_up_to.ensures in record { answer = r.answer; applied = r.applied }

pub judge_listed-requires : goal.judge_listed-requires
judge_listed-requires c = let v = vector_inside _ _ _ c.requires.1 c.flag-2.ensures c.if-flag-2.true in (v.long, v.inside, v.short, (turnable 32 32 _ (omega arith) (omega arith) c.requires.0).next)

pub returns-then-flag-2 : goal.returns-then-flag-2
returns-then-flag-2 c = let r = told_vector 32 c.args.s _ _ _ _ _ c.requires.0 c.flag.ensures c.if-flag.false c.flag-2.ensures c.if-flag-2.true c.judge_listed.ensures in record { answer = r.answer; applied = r.applied }

pub returns : goal.returns
returns c = let r = told_silent 32 c.args.s _ _ _ _ _ (omega arith) c.requires.0 c.flag.ensures c.if-flag.false c.flag-2.ensures c.if-flag-2.false refl in record { answer = r.answer; applied = r.applied }
