-- `ack_text` meets its contract: each number stands with its comma before the next.
use native.Mathlib.Omega.{arith}
use Rattle.text.specs.Within.{within_decimal, within_comma}
use Rattle.listing_fields.proofs.ack_text.Goals as goal

pub returns : goal.returns
returns c = within_comma _ c.requires c.item-at1.ensures
    (λ h. within_comma _ h c.item-at2.ensures
    (λ h. within_comma _ h c.item-at3.ensures
    (λ h. within_comma _ h c.item-at4.ensures (λ h. within_decimal (omega arith) c.decimal.ensures))))
