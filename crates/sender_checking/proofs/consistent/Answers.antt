-- `sender_checking::consistent` meets its contract: each way out is an instance of a law.
use Rattle.sender_checking.proofs.Placed.{judged}
use Rattle.sender_checking.proofs.Judged.{begun, begun_ranges, bad_begin}
use mathlib.Core.Path.{refl}
use Rattle.std.proofs.Common.{ap, not}
use Rattle.sender_checking.proofs.consistent.Goals as goal

pub returns-then-not-numbersfit-blocksfit : goal.returns-then-not-numbersfit-blocksfit
returns-then-not-numbersfit-blocksfit c = bad_begin 32 _ _ _ _ c.range_fits-numbersfit.ensures c.range_fits-blocksfit.ensures c.timeout_fits.ensures (ap not c.if-not-numbersfit-blocksfit.true)

pub walk_numbers-requires : goal.walk_numbers-requires
walk_numbers-requires c = begun_ranges 32 c.args.s _ _ _ c.range_fits-numbersfit.ensures c.range_fits-blocksfit.ensures c.timeout_fits.ensures (ap not c.if-not-numbersfit-blocksfit.false)

pub returns-in_default : goal.returns-in_default
returns-in_default c = (rw c.in_default.is at (c.walk_numbers.ensures c.args.s.firstdata.0 c.args.s.timeout c.args.s.logwindow)).stops refl

pub returns : goal.returns
returns c = judged 32 _ _ _ _ _ (begun 32 _ _ _ _ c.range_fits-numbersfit.ensures c.range_fits-blocksfit.ensures c.timeout_fits.ensures (ap not c.if-not-numbersfit-blocksfit.false)) (rw c.in-Some.is at (c.walk_numbers.ensures c.args.s.firstdata.0 c.args.s.timeout c.args.s.logwindow)) refl c.numbers_wrong-numberswrong.ensures c.blocks_wrong.ensures
