-- `first_numbers` meets its contract: what stands before the comma that `find` finds and what stands behind it are the two numbers.
use native.Mathlib.Omega.{arith}
use mathlib.Core.Path.{sym, ◌∙◌}
use lib.Seq.{length-take-le}
use Rattle.text.specs.Ascii.{ascii}
use Rattle.trace.specs.WordsLaws.{starts_length, to_end}
use Rattle.trace.proofs.Numbers.{first_other, first_no_comma, first_data_bad, first_channel_bad, first_both, comma_within}
use Rattle.trace_numbers.proofs.first_numbers.Goals as goal

pub returns-then-not-starts : goal.returns-then-not-starts
returns-then-not-starts c = first_other _ (sym c.starts.ensures ∙ c.if-not-starts.true)

pub slice_bounds-both-count : goal.slice_bounds-both-count
slice_bounds-both-count c = starts_length (ascii "first=") _ (sym c.starts.ensures ∙ c.if-not-starts.false)

pub slice_bounds-both-start : goal.slice_bounds-both-start
slice_bounds-both-start c = starts_length (ascii "first=") _ (sym c.starts.ensures ∙ c.if-not-starts.false)

pub returns-then-comma-both : goal.returns-then-comma-both
returns-then-comma-both c = first_no_comma _ _ _ (sym c.starts.ensures ∙ c.if-not-starts.false) (to_end 6 _) c.find-comma.ensures c.if-comma-both.true

pub slice_bounds-number-end : goal.slice_bounds-number-end
slice_bounds-number-end c = sym (length-take-le _ _ (comma_within _ _ c.find-comma.ensures))

pub returns-in_err-data : goal.returns-in_err-data
returns-in_err-data c =
    let k = sym c.starts.ensures ∙ c.if-not-starts.false in
    c.from_residual.ensures ∙ first_data_bad _ _ _ k (to_end 6 _) c.find-comma.ensures (sym c.in_err-data.was ∙ c.number.ensures)

pub overflow_add-comma : goal.overflow_add-comma
overflow_add-comma c = omega (arith, comma_within _ _ c.find-comma.ensures)

pub slice_bounds-number-count : goal.slice_bounds-number-count
slice_bounds-number-count c = omega (arith, comma_within _ _ c.find-comma.ensures)

pub slice_bounds-number-start : goal.slice_bounds-number-start
slice_bounds-number-start c = omega (arith, comma_within _ _ c.find-comma.ensures)

pub returns-in_err-channel : goal.returns-in_err-channel
returns-in_err-channel c =
    let k = sym c.starts.ensures ∙ c.if-not-starts.false in
    c.from_residual-in_err-channel.ensures ∙ first_channel_bad _ _ _ k (to_end 6 _) c.find-comma.ensures (sym c.in_err-channel.was ∙ c.number-2.ensures)

pub returns : goal.returns
returns c =
    let k = sym c.starts.ensures ∙ c.if-not-starts.false in
    first_both _ _ _ k (to_end 6 _) c.find-comma.ensures _ _ (sym c.in_ok-data.was ∙ c.number.ensures) (sym c.in_ok-channel.was ∙ c.number-2.ensures)
