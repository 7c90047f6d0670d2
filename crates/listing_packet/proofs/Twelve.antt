-- A packet's lines are the three parts that are written one after the other.
use mathlib.Core.List.{◌++◌, append_assoc, append-nil}
use mathlib.Core.Path.{◌≡◌}
use Rattle.wire.specs.declared.Packet.{Packet}
use Rattle.listing_packet.specs.Lines.{packet_lines}
use Rattle.listing_packet.specs.Parts.{head_lines, middle_lines, tail_lines}

-- the twelve lines in their three parts
pub packet_parts : (p : Packet)
    → head_lines p.values ++ (middle_lines p.values ++ tail_lines p.values p.bytes) ≡ packet_lines p
unfolding head_lines middle_lines tail_lines packet_lines
packet_parts p = simp (append_assoc, append-nil)
