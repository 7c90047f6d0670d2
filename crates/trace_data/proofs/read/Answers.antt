-- `read` meets its contract: each test of the definition goes one of the ways out, and what is decoded is what stands behind the key.
use mathlib.Core.Path.{sym, ◌∙◌}
use native.Mathlib.Omega.{arith}
use Rattle.common.specs.Answer.{written_refused, left_refused, written_wrote, left_wrote}
use Rattle.trace.specs.DataLaws.{data_long, data_bad, data_short, data_fits}
use Rattle.trace.proofs.Decoded.{data_laid}
use Rattle.trace_data.proofs.read.Goals as goal

pub returns-then-not-well_written : goal.returns-then-not-well_written
returns-then-not-well_written c =
    let e = data_bad _ _ _ (sym c.well_written.ensures ∙ c.if-not-well_written.true) in
    record { answer = written_refused _ _ _ e; bytes = left_refused _ _ _ _ e (λ z. omega arith) }

pub overflow_sub-n : goal.overflow_sub-n
overflow_sub-n c = data_long _ _ (sym c.well_written.ensures ∙ c.if-not-well_written.false)

pub returns-then-out-n : goal.returns-then-out-n
returns-then-out-n c =
    let e = data_short _ _ _ (sym c.well_written.ensures ∙ c.if-not-well_written.false) c.if-out-n.true in
    record { answer = written_refused _ _ _ e; bytes = left_refused _ _ _ _ e (λ z. omega arith) }

pub slice_bounds-decode-count : goal.slice_bounds-decode-count
slice_bounds-decode-count c = data_long _ _ (sym c.well_written.ensures ∙ c.if-not-well_written.false)

pub slice_bounds-decode-start : goal.slice_bounds-decode-start
slice_bounds-decode-start c = data_long _ _ (sym c.well_written.ensures ∙ c.if-not-well_written.false)

pub returns : goal.returns
returns c =
    let e = data_fits _ _ _ (sym c.well_written.ensures ∙ c.if-not-well_written.false) c.if-out-n.false in
    let l = data_laid c.args.line.now _ c.decode.ensures in
    record { answer = written_wrote _ _ _ _ _ e l; bytes = left_wrote _ _ _ _ _ e l }
