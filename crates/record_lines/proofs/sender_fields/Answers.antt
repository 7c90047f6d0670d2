-- `sender_fields` meets its contract: its eight lines are laid one after the other.
use native.Mathlib.Omega.{arith}
use Rattle.text.specs.Within.{within_as, within_length, within_then}
use Rattle.record_lines.proofs.Parts.{room_left, sender_parts}
use Rattle.record_lines.proofs.sender_fields.Goals as goal

pub entry-at2-requires : goal.entry-at2-requires
entry-at2-requires c = omega (arith, room_left 259 c.requires c.entry-at1.ensures)

pub entry-at3-requires : goal.entry-at3-requires
entry-at3-requires c = omega (arith, room_left 218 (room_left 259 c.requires c.entry-at1.ensures) c.entry-at2.ensures)

pub entry-at4-requires : goal.entry-at4-requires
entry-at4-requires c = omega (arith, room_left 182 (room_left 218 (room_left 259 c.requires c.entry-at1.ensures) c.entry-at2.ensures) c.entry-at3.ensures)

pub entry-at5-requires : goal.entry-at5-requires
entry-at5-requires c = omega (arith, room_left 144 (room_left 182 (room_left 218 (room_left 259 c.requires c.entry-at1.ensures) c.entry-at2.ensures) c.entry-at3.ensures) c.entry-at4.ensures)

pub entry-at6-requires : goal.entry-at6-requires
entry-at6-requires c = omega (arith, room_left 112 (room_left 144 (room_left 182 (room_left 218 (room_left 259 c.requires c.entry-at1.ensures) c.entry-at2.ensures) c.entry-at3.ensures) c.entry-at4.ensures) c.entry-at5.ensures)

pub entry-at7-requires : goal.entry-at7-requires
entry-at7-requires c = omega (arith, room_left 79 (room_left 112 (room_left 144 (room_left 182 (room_left 218 (room_left 259 c.requires c.entry-at1.ensures) c.entry-at2.ensures) c.entry-at3.ensures) c.entry-at4.ensures) c.entry-at5.ensures) c.entry-at6.ensures)

pub entry-requires : goal.entry-requires
entry-requires c = room_left 40 (room_left 79 (room_left 112 (room_left 144 (room_left 182 (room_left 218 (room_left 259 c.requires c.entry-at1.ensures) c.entry-at2.ensures) c.entry-at3.ensures) c.entry-at4.ensures) c.entry-at5.ensures) c.entry-at6.ensures) c.entry-at7.ensures

pub returns : goal.returns
returns c = within_as (sender_parts _) (within_then c.requires c.entry-at1.ensures (λ h. within_then h c.entry-at2.ensures (λ h. within_then h c.entry-at3.ensures (λ h. within_then h c.entry-at4.ensures (λ h. within_then h c.entry-at5.ensures (λ h. within_then h c.entry-at6.ensures (λ h. within_then h c.entry-at7.ensures (λ h. c.entry.ensures))))))))

pub shape_of-out : goal.shape_of-out
shape_of-out c = within_length c.requires (returns c)
