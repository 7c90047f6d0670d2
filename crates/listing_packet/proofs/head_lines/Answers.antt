-- `head_lines` meets its contract: four lines are laid one after the other.
use native.Mathlib.Omega.{arith}
use Rattle.listing_packet.specs.Parts.{head_lines}
use Rattle.text.specs.Within.{within_length, within_four}
use Rattle.listing_packet.proofs.head_lines.Goals as goal

pub number_line-requires : goal.number_line-requires
number_line-requires c = (omega (arith, c.requires, c.number_line-at1.ensures.room, c.number_line-at2.ensures.room, c.number_line-at3.ensures.room), omega arith)

pub returns : goal.returns
unfolding head_lines
returns c = within_four c.requires c.number_line-at1.ensures c.number_line-at2.ensures c.number_line-at3.ensures c.number_line.ensures

pub shape_of-out : goal.shape_of-out
shape_of-out c = within_length c.requires (returns c)
