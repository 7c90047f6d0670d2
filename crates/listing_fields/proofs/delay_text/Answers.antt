-- `delay_text` meets its contract: the first number stands with its comma before the second.
use native.Mathlib.Omega.{arith}
use Rattle.text.specs.Within.{within_decimal, within_comma}
use Rattle.listing_fields.proofs.delay_text.Goals as goal

pub returns : goal.returns
returns c = within_comma _ c.requires c.item-at1.ensures (λ h. within_decimal (omega arith) c.decimal.ensures)
