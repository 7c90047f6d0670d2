-- `receiver_fields` meets its contract: its five lines are laid one after the other.
use native.Mathlib.Omega.{arith}
use Rattle.text.specs.Within.{within_as, within_length, within_then}
use Rattle.record_lines.proofs.Parts.{room_left, receiver_parts}
use Rattle.record_lines.proofs.receiver_fields.Goals as goal

pub entry-at2-requires : goal.entry-at2-requires
entry-at2-requires c = omega (arith, room_left 146 c.requires c.entry-at1.ensures)

pub entry-at3-requires : goal.entry-at3-requires
entry-at3-requires c = omega (arith, room_left 103 (room_left 146 c.requires c.entry-at1.ensures) c.entry-at2.ensures)

pub entry-at4-requires : goal.entry-at4-requires
entry-at4-requires c = omega (arith, room_left 68 (room_left 103 (room_left 146 c.requires c.entry-at1.ensures) c.entry-at2.ensures) c.entry-at3.ensures)

pub entry-requires : goal.entry-requires
entry-requires c = room_left 34 (room_left 68 (room_left 103 (room_left 146 c.requires c.entry-at1.ensures) c.entry-at2.ensures) c.entry-at3.ensures) c.entry-at4.ensures

pub returns : goal.returns
returns c = within_as (receiver_parts _) (within_then c.requires c.entry-at1.ensures (λ h. within_then h c.entry-at2.ensures (λ h. within_then h c.entry-at3.ensures (λ h. within_then h c.entry-at4.ensures (λ h. c.entry.ensures)))))

pub shape_of-out : goal.shape_of-out
shape_of-out c = within_length c.requires (returns c)
