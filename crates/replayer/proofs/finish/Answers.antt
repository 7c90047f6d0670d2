-- `finish` meets its contract: one law for each way out.
use native.Mathlib.Omega.{arith}
use Rattle.replayer.proofs.Ending.{ends_record, ends_fifteen, ends_broken, ends_other}
use Rattle.replayer.proofs.finish.Goals as goal

pub returns-in-4 : goal.returns-in-4
returns-in-4 c = ends_record _ _ _ c.in-4.is c.full_record.ensures

pub returns-in-9 : goal.returns-in-9
returns-in-9 c = ends_fifteen _ _ _ c.in-9.is c.answer_line.ensures

pub returns-in-5-to-7 : goal.returns-in-5-to-7
returns-in-5-to-7 c = ends_broken _ _ _ c.requires (omega arith) (omega arith) c.answer_line-mid.ensures c.full_record-in-5-to-7.ensures

pub returns-in_default : goal.returns-in_default
returns-in_default c = ends_other _ _ _ (λ h. omega arith) (λ h i. grind arith) (λ h. omega arith) c.answer_line-in_default.ensures
