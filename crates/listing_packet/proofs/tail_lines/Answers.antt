-- `tail_lines` meets its contract: four lines are laid one after the other.
use Rattle.listing_packet.specs.Parts.{tail_lines}
use Rattle.text.specs.Within.{within_four}
use Rattle.listing_packet.proofs.tail_lines.Goals as goal

pub returns : goal.returns
unfolding tail_lines
returns c = within_four c.requires c.flagged_line-at1.ensures c.vector_line-at2.ensures c.flagged_line-at3.ensures c.flagged_line.ensures
