-- `event` meets its contract: each test of the definition goes one of the ways out, and what is laid is the event.
use mathlib.Core.Path.{sym, ◌∙◌}
use native.Mathlib.Omega.{arith}
use lib.ListN.{length}
use Rattle.common.specs.Answer.{written_refused, left_refused, written_wrote, left_wrote}
use Rattle.text.specs.Within.{text_end, text_taken}
use Rattle.trace.proofs.Texts.{event_bad, event_short, event_fits, event_laid, event_bound}
use Rattle.trace_writing.proofs.event.Goals as goal

pub returns-then-not-writable : goal.returns-then-not-writable
returns-then-not-writable c =
    let e = event_bad _ _ _ _ (sym c.writable.ensures ∙ c.if-not-writable.true) in
    record { answer = written_refused _ _ _ e; bytes = left_refused _ _ _ _ e (λ z. omega arith); bound = event_bound _ _ _ (omega arith) }

pub returns-then-out-n : goal.returns-then-out-n
returns-then-out-n c =
    let a = c.args in
    let e = event_short a.tick a.kind a.bytes.now (length a.out.now) (sym c.writable.ensures ∙ c.if-not-writable.false) (omega (arith, text_end c.lines-n.ensures)) in
    record { answer = written_refused _ _ _ e; bytes = left_refused _ _ _ _ e (λ z. omega arith); bound = event_bound _ _ _ (omega arith) }

pub slice_bounds-event_lines-end : goal.slice_bounds-event_lines-end
slice_bounds-event_lines-end c = text_taken c.lines-n.ensures

pub event_lines-requires : goal.event_lines-requires
event_lines-requires c = omega (arith, text_taken c.lines-n.ensures)

pub returns : goal.returns
returns c =
    let a = c.args in
    let e = event_fits a.tick a.kind a.bytes.now (length a.out.now) (sym c.writable.ensures ∙ c.if-not-writable.false) (omega (arith, text_end c.lines-n.ensures)) in
    let l = event_laid _ _ a.bytes.now c.lines-n.ensures c.event_lines.ensures in
    record { answer = written_wrote _ _ _ _ _ e l; bytes = left_wrote _ _ _ _ _ e l; bound = event_bound _ _ _ (omega arith) }
