-- `middle_lines` meets its contract: four lines are laid one after the other.
use Rattle.listing_packet.specs.Parts.{middle_lines}
use Rattle.text.specs.Within.{within_four}
use Rattle.listing_packet.proofs.middle_lines.Goals as goal

pub returns : goal.returns
unfolding middle_lines
returns c = within_four c.requires c.ack_line-at1.ensures c.flagged_line-at2.ensures c.delay_line-at3.ensures c.flagged_line.ensures
