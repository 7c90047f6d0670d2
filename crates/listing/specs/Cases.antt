-- Worked examples of listings: the document's own, a refusal, a dummy, and the payloads that the document's example lacks.
use Rattle.std.specs.Prelude.{List, [], ◌∷◌, refl}
use Rattle.common.specs.Answer.{refusal_of}
use Rattle.common.specs.Order.{first}
use Rattle.text.specs.Ascii.{ascii}
use Rattle.text.specs.Decimal.{digits_by, decimal_of}
use Rattle.text.specs.Cases.{Case, case, Right}
use Rattle.wire.specs.Frame.{swapped, dropped_by, end_of}
use Rattle.wire.specs.Flags.{six_of, outside}
use Rattle.wire.specs.Layout.{ack_end, overhead_end, delay_end, aoa_end, number_end, vector_end, channel_end, values_of, packet_of}
use Rattle.wire.specs.Read.{read_packet, read_of}
use Rattle.listing_packet.specs.Lines.{packet_lines}
use Rattle.listing.specs.Lines.{lines_for, listing_of}

unfoldable pub cases : List Case
cases =
    case (listing_of (0x41 ∷ 0x04 ∷ 0x50 ∷ 0xe8 ∷ 0x03 ∷ 0x07 ∷ 0x00 ∷ 0x00 ∷ 0x42 ∷ []))
    (ascii "answer=0\ntype=0\nflags=4\nlogwindow=5\nack=-\noverhead=-\ndelay=-\naoa=-\ndata=1000\nvec=-\nchannel=7\nbytes=2\n")
    ∷ case (listing_of []) (ascii "answer=1\n")
    ∷ case (listing_of (0x00 ∷ 0x00 ∷ 0x00 ∷ 0x00 ∷ 0x00 ∷ 0x00 ∷ 0x00 ∷ 0x10 ∷ [])) (ascii "answer=0\ntype=8\n")
    ∷ case
    (listing_of (0x00 ∷ 0x41 ∷ 0x51 ∷ 0xe8 ∷ 0x03 ∷ 0x01 ∷ 0x00 ∷ 0x00 ∷ 0x02 ∷ 0x30 ∷ 0x09 ∷ 0x04 ∷ 0x2c ∷ 0x01 ∷ []))
    (ascii "answer=0\ntype=0\nflags=321\nlogwindow=5\nack=1000,1,2,0,3\noverhead=9\ndelay=4,300\naoa=-\ndata=-\nvec=-\nchannel=-\nbytes=-\n")
    ∷ case (listing_of (0x81 ∷ 0x18 ∷ 0x50 ∷ 0x0a ∷ 0x00 ∷ 0x0a ∷ 0x00 ∷ 0x00 ∷ 0x07 ∷ 0x00 ∷ 0x00 ∷ 0x03 ∷ 0x01 ∷ []))
    (ascii "answer=0\ntype=0\nflags=24\nlogwindow=5\nack=-\noverhead=-\ndelay=-\naoa=10\ndata=-\nvec=10,1,7\nchannel=-\nbytes=-\n")
    ∷ []

pub cases_right : Right cases
unfolding cases listing_of lines_for packet_lines decimal_of digits_by read_of read_packet refusal_of first swapped dropped_by end_of six_of outside ack_end overhead_end delay_end aoa_end number_end vector_end channel_end values_of packet_of
cases_right = (refl, (refl, (refl, (refl, (refl, tt)))))
