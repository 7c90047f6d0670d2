-- `full_record` meets its contract: the four parts are laid one after the other.
use native.Mathlib.Omega.{arith}
use Rattle.text.specs.Within.{within_as, within_length, within_then}
use Rattle.record_lines.proofs.Parts.{room_left, record_parts}
use Rattle.record_lines.proofs.full_record.Goals as goal

pub sender_places-at2-requires : goal.sender_places-at2-requires
sender_places-at2-requires c = omega (arith, room_left 10554 c.requires c.sender_fields-at1.ensures)

pub receiver_fields-at3-requires : goal.receiver_fields-at3-requires
receiver_fields-at3-requires c = omega (arith, room_left 4378 (room_left 10554 c.requires c.sender_fields-at1.ensures) c.sender_places-at2.ensures)

pub receiver_places-requires : goal.receiver_places-requires
receiver_places-requires c = room_left 4192 (room_left 4378 (room_left 10554 c.requires c.sender_fields-at1.ensures) c.sender_places-at2.ensures) c.receiver_fields-at3.ensures

pub returns : goal.returns
returns c =
    within_as (record_parts _ _)
    (within_then c.requires c.sender_fields-at1.ensures
    (λ h. within_then h c.sender_places-at2.ensures
    (λ h. within_then h c.receiver_fields-at3.ensures
    (λ h. c.receiver_places.ensures))))

pub shape_of-out : goal.shape_of-out
shape_of-out c = within_length c.requires (returns c)
