-- `data_line` meets its contract: the line is refused where it is badly written, and else its event's call is made and answered.
use mathlib.Core.Path.{sym, ◌∙◌}
use native.Mathlib.Omega.{arith}
use Prim.Native.Nat.{ℕ, ◌≤◌}
use lib.ListN.{length, length-replicate}
use lib.Seq.{length-take-le}
use Rattle.stepping.proofs.OneLine.{data_refused, data_wrote, data_taken, data_within, line_refused, line_called}
use Rattle.stepping.proofs.data_line.Goals as goal

pub slice_bounds-bytes-end : goal.slice_bounds-bytes-end
slice_bounds-bytes-end c = omega (arith, data_within _ _ _ (omega (arith, length-replicate {A = ℕ} 32768 0)) c.requires.1 (sym c.in-Ok.is ∙ c.read.ensures.answer))

pub slice_bounds-answer-end : goal.slice_bounds-answer-end
slice_bounds-answer-end c =
    let h : c.in-Ok.n ≤ length c.read.new.out = omega (arith, data_within _ _ _ (omega (arith, length-replicate {A = ℕ} 32768 0)) c.requires.1 (sym c.in-Ok.is ∙ c.read.ensures.answer)) in
    sym (length-take-le _ _ h)

pub answer-x-requires : goal.answer-x-requires
answer-x-requires c = c.requires.0

pub returns-in-Err : goal.returns-in-Err
returns-in-Err c = line_refused c.args.s _ _ _ _ _ _ c.requires.2 (data_refused _ _ _ (omega (arith, length-replicate {A = ℕ} 32768 0)) c.requires.1 (sym c.in-Err.is ∙ c.read.ensures.answer)) c.behind_data.ensures

pub returns-in-Ok : goal.returns-in-Ok
returns-in-Ok c = line_called c.args.s _ _ _ _ _ _ _ _ _ _ _ _ _ c.requires.2 (data_wrote _ _ _ (omega (arith, length-replicate {A = ℕ} 32768 0)) c.requires.1 (sym c.in-Ok.is ∙ c.read.ensures.answer)) c.behind_data-in-Ok.ensures (data_taken _ _ _ (omega (arith, length-replicate {A = ℕ} 32768 0)) c.requires.1 _ (sym c.in-Ok.is ∙ c.read.ensures.answer) c.read.ensures.bytes) c.answer-x.ensures.left c.answer-x.ensures.text
