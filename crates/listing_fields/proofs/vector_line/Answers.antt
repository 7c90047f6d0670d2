-- `vector_line` meets its contract: key, numbers and newline one after the other where the flag is set, and the whole line at once where it is not.
use mathlib.Core.Path.{sym, ◌∙◌}
use native.Mathlib.Omega.{arith}
use Rattle.text.specs.Ascii.{ascii}
use Rattle.text.specs.Within.{within, within_line}
use Rattle.listing_fields.proofs.Runs.{within_present, within_dash}
use Rattle.listing_fields.proofs.vector_line.Goals as goal

pub returns-then-flag : goal.returns-then-flag
returns-then-flag c = within_line c.requires (within 4 (omega arith) c.lay-after.ensures)
    (within_present _ _ (sym c.flag.ensures ∙ c.if-flag.true) c.vector_text-end.ensures)
    (within 1 (omega arith) c.lay.ensures)

pub returns : goal.returns
returns c = within_dash (ascii "vec=") _ _ (sym c.flag.ensures ∙ c.if-flag.false) (within 67 (omega arith) c.lay-2.ensures)
