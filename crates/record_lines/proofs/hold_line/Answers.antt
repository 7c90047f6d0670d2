-- `hold_line` meets its contract: its three fields are laid one after the other.
use native.Mathlib.Omega.{arith}
use Rattle.text.specs.Within.{within_as, within_length, within_then}
use Rattle.record_lines.proofs.Parts.{room_left, hold_parts}
use Rattle.record_lines.proofs.hold_line.Goals as goal

pub comma-at2-requires : goal.comma-at2-requires
comma-at2-requires c = omega (arith, room_left 42 c.requires c.named-at1.ensures)

pub last-requires : goal.last-requires
last-requires c = room_left 21 (room_left 42 c.requires c.named-at1.ensures) c.comma-at2.ensures

pub returns : goal.returns
returns c = within_as (hold_parts _ _) (within_then c.requires c.named-at1.ensures (λ h. within_then h c.comma-at2.ensures (λ h. c.last.ensures)))

pub shape_of-out : goal.shape_of-out
shape_of-out c = within_length c.requires (returns c)
