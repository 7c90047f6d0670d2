-- The lines of one datagram, a packet's or these: "A refusal is one line `answer=N`; a dummy two, `answer=0` and `type=8`." Each line ends with a newline.
use Rattle.std.specs.Prelude.{ℕ, List, ◌++◌, Err, Ok, Some, None}
use Rattle.text.specs.Decimal.{decimal_of}
use Rattle.text.specs.Lines.{line}
use Rattle.wire.specs.Read.{read_of, Reading}
use Rattle.common.specs.Answer.{no_of, room_answer}
use Rattle.listing_packet.specs.Lines.{packet_lines}

unfoldable pub lines_for : Reading → List ℕ
lines_for (Err r) = line "answer" (decimal_of (no_of r))
lines_for (Ok None) = line "answer" (decimal_of 0) ++ line "type" (decimal_of 8)
lines_for (Ok (Some p)) = packet_lines p

-- the listing of a datagram
unfoldable pub listing_of : List ℕ → List ℕ
listing_of d = lines_for (read_of d)

-- 14 exactly if the output buffer is too short
unfoldable pub answer_of : List ℕ → ℕ → ℕ
answer_of d room = room_answer (listing_of d) room
