-- `number_line` meets its contract: key, value and newline are laid one after the other.
use native.Mathlib.Omega.{arith}
use Rattle.text.specs.Within.{within, within_line}
use Rattle.listing_fields.proofs.number_line.Goals as goal

pub returns : goal.returns
returns c = within_line c.requires.0 (within 10 (omega arith) c.lay-after.ensures) c.number-end.ensures (within 1 (omega arith) c.lay.ensures)
