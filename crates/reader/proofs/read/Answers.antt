-- `reader::read` meets its contract: each way out is an instance of a law of Refusals.
use mathlib.Core.Path.{refl, ◌∙◌, sym}
use Rattle.reader.proofs.Refusals.{frame_short, frame_long, frame_reserved, frame_dummy, frame_type, frame_read}
use Rattle.reader.proofs.read.Goals as goal

pub returns-then-n-lt-SHORTEST : goal.returns-then-n-lt-SHORTEST
returns-then-n-lt-SHORTEST c = frame_short _ c.if-n-lt-SHORTEST.true

pub returns-then-n-gt-LONGEST_DATAGRAM : goal.returns-then-n-gt-LONGEST_DATAGRAM
returns-then-n-gt-LONGEST_DATAGRAM c = frame_long _ c.if-n-gt-LONGEST_DATAGRAM.true

pub returns-then-reserved : goal.returns-then-reserved
returns-then-reserved c = frame_reserved _ _ c.byte_at-prefix.ensures c.if-n-lt-SHORTEST.false c.if-n-gt-LONGEST_DATAGRAM.false (sym c.reserved.ensures ∙ c.if-reserved.true)

pub returns-then-kind-eq8 : goal.returns-then-kind-eq8
returns-then-kind-eq8 c = frame_dummy _ _ c.byte_at-prefix.ensures c.if-n-lt-SHORTEST.false c.if-n-gt-LONGEST_DATAGRAM.false _ c.type_of-kind.ensures (sym c.reserved.ensures ∙ c.if-reserved.false) c.if-kind-eq8.true

pub returns-then-kind-ne0 : goal.returns-then-kind-ne0
returns-then-kind-ne0 c = frame_type _ _ c.byte_at-prefix.ensures c.if-n-lt-SHORTEST.false c.if-n-gt-LONGEST_DATAGRAM.false _ c.type_of-kind.ensures (sym c.reserved.ensures ∙ c.if-reserved.false) c.if-kind-eq8.false c.if-kind-ne0.true

pub returns : goal.returns
returns c = frame_read _ _ c.byte_at-prefix.ensures c.if-n-lt-SHORTEST.false c.if-n-gt-LONGEST_DATAGRAM.false _ _ _ _ c.type_of-kind.ensures (sym c.reserved.ensures ∙ c.if-reserved.false) c.if-kind-eq8.false c.if-kind-ne0.false c.dropped.ensures.0 refl c.read_packet.ensures
