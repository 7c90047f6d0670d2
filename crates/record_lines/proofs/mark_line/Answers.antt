-- `mark_line` meets its contract: its two fields are laid one after the other.
use Rattle.text.specs.Within.{within_as, within_length, within_then}
use Rattle.record_lines.proofs.Parts.{room_left, mark_parts}
use Rattle.record_lines.proofs.mark_line.Goals as goal

pub last-requires : goal.last-requires
last-requires c = room_left 21 c.requires c.named-at1.ensures

pub returns : goal.returns
returns c = within_as (mark_parts _ _) (within_then c.requires c.named-at1.ensures (λ h. c.last.ensures))

pub shape_of-out : goal.shape_of-out
shape_of-out c = within_length c.requires (returns c)
