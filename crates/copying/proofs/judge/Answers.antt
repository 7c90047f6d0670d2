-- `parts::judge` meets its contract: each way out is an instance of a law of Ways.
use native.Mathlib.Omega.{arith}
use Rattle.common.specs.Answer.{answered_refused, answered_accepted}
use Rattle.copying.proofs.Ways.{copy_short, copy_long, copy_past, copy_narrow, copy_accepted}
use Rattle.copying.proofs.judge.Goals as goal

pub returns-then-size-lt-SHORTEST : goal.returns-then-size-lt-SHORTEST
returns-then-size-lt-SHORTEST c = answered_refused _ _ (copy_short _ _ _ _ c.if-size-lt-SHORTEST.true)

pub returns-then-size-gt-LONGEST_DATAGRAM : goal.returns-then-size-gt-LONGEST_DATAGRAM
returns-then-size-gt-LONGEST_DATAGRAM c = answered_refused _ _ (copy_long _ _ _ _ c.if-size-gt-LONGEST_DATAGRAM.true)

pub returns-then-end-n : goal.returns-then-end-n
returns-then-end-n c = answered_refused _ _ (copy_past _ _ _ _ _ _ c.if-size-lt-SHORTEST.false c.if-size-gt-LONGEST_DATAGRAM.false c.byte_at.ensures c.dropped.ensures.0 (omega arith))

pub returns-then-end-n-2 : goal.returns-then-end-n-2
returns-then-end-n-2 c = answered_refused _ _ (copy_past _ _ _ _ _ _ c.if-size-lt-SHORTEST.false c.if-size-gt-LONGEST_DATAGRAM.false c.byte_at.ensures c.dropped.ensures.0 (omega arith))

pub returns-then-room-n : goal.returns-then-room-n
returns-then-room-n c = answered_refused _ _ (copy_narrow _ _ _ _ _ _ c.if-size-lt-SHORTEST.false c.if-size-gt-LONGEST_DATAGRAM.false c.byte_at.ensures c.dropped.ensures.0 (omega arith) c.if-room-n.true)

pub returns : goal.returns
returns c = answered_accepted _ (copy_accepted _ _ _ _ _ _ c.if-size-lt-SHORTEST.false c.if-size-gt-LONGEST_DATAGRAM.false c.byte_at.ensures c.dropped.ensures.0 (omega arith) c.if-room-n.false)
