-- `number_under` meets its contract: a line that starts with the key is at least as long, and the number is what stands behind it.
use mathlib.Core.Path.{sym, ◌∙◌}
use lib.ListN.{length}
use Rattle.trace.specs.WordsLaws.{starts_length, to_end}
use Rattle.trace.proofs.Numbers.{under_other, under_key}
use Rattle.trace_numbers.proofs.number_under.Goals as goal

pub returns-then-not-starts : goal.returns-then-not-starts
returns-then-not-starts c = under_other _ _ (sym c.starts.ensures ∙ c.if-not-starts.true)

pub slice_bounds-number-count : goal.slice_bounds-number-count
slice_bounds-number-count c = starts_length _ _ (sym c.starts.ensures ∙ c.if-not-starts.false)

pub slice_bounds-number-start : goal.slice_bounds-number-start
slice_bounds-number-start c = starts_length _ _ (sym c.starts.ensures ∙ c.if-not-starts.false)

pub returns : goal.returns
returns c = under_key _ _ _ (sym c.starts.ensures ∙ c.if-not-starts.false) (to_end (length c.args.key.now) c.args.line.now) c.number.ensures
