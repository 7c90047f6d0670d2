-- `item` meets its contract: the comma follows the digits, and there are at most 20 of them.
use native.Mathlib.Omega.{arith}
use Rattle.text.specs.Within.{within, within_decimal, within_then}
use Rattle.listing_fields.proofs.item.Goals as goal

pub lay-requires : goal.lay-requires
lay-requires c = omega (arith, (within_decimal (omega arith) c.decimal-end.ensures).room)

pub returns : goal.returns
returns c = within_then c.requires (within_decimal (omega arith) c.decimal-end.ensures) (λ h. within 1 (omega arith) c.lay.ensures)
