-- `lines` meets its contract: the twelve lines are those of the three parts.
use Rattle.text.specs.Within.{within_as, within_then}
use Rattle.listing_packet.proofs.Twelve.{packet_parts}
use Rattle.listing_packet.proofs.lines.Goals as goal

pub returns : goal.returns
returns c = within_as (packet_parts _) (within_then c.requires c.head_lines-at1.ensures (λ h. within_then h c.middle_lines-at2.ensures (λ h. c.tail_lines.ensures)))
