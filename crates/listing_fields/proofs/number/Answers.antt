-- `number` meets its contract: a decimal of 64 bits, or one byte, is at most 20 bytes.
use native.Mathlib.Omega.{arith}
use Rattle.text.specs.Within.{within, within_decimal}
use Rattle.listing_fields.proofs.Runs.{within_present, within_absent}
use Rattle.listing_fields.proofs.number.Goals as goal

pub returns-then-present : goal.returns-then-present
returns-then-present c = within_present _ _ c.if-present.true (within_decimal (omega arith) c.decimal.ensures)

pub returns : goal.returns
returns c = within_absent _ _ c.if-present.false (within 20 (omega arith) c.lay.ensures)
