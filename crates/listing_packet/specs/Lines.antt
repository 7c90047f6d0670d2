-- The lines of a packet, in the order of document 01's example. Each line ends with a newline.
use Rattle.std.specs.Prelude.{ℕ, List, [], ◌∷◌}
use Rattle.common.specs.Put.{joined}
use Rattle.text.specs.Decimal.{decimal_of}
use Rattle.text.specs.Lines.{line}
use Rattle.wire.specs.declared.Packet.{Packet}
use Rattle.wire.specs.Flags.{ack_in, data_in, vector_in, aoa_in, overhead_in, delay_in}
use Rattle.listing_fields.specs.Fields.{or_dash, ack_text, delay_text, vector_text}

unfoldable pub packet_lines : Packet → List ℕ
packet_lines p =
    joined
    (line "answer" (decimal_of 0)
    ∷ line "type" (decimal_of 0)
    ∷ line "flags" (decimal_of p.values.flags)
    ∷ line "logwindow" (decimal_of p.values.logwindow)
    ∷ line "ack" (or_dash (ack_in p.values.flags) (ack_text p.values.ack))
    ∷ line "overhead" (or_dash (overhead_in p.values.flags) (decimal_of p.values.overhead))
    ∷ line "delay" (or_dash (delay_in p.values.flags) (delay_text p.values.delay))
    ∷ line "aoa" (or_dash (aoa_in p.values.flags) (decimal_of p.values.aoa))
    ∷ line "data" (or_dash (data_in p.values.flags) (decimal_of p.values.number))
    ∷ line "vec" (or_dash (vector_in p.values.flags) (vector_text p.values.vector))
    ∷ line "channel" (or_dash (data_in p.values.flags) (decimal_of p.values.channel))
    ∷ line "bytes" (or_dash (data_in p.values.flags) (decimal_of p.bytes))
    ∷ [])
