-- What a new block or a resend writes reads back as exactly its values: the AckOfAcks, the data number, the channel number and the block, and nothing else.
-- Last the same of the calls: of the bytes that an accepted call reports, as they stand in the lent output.
use Rattle.std.specs.Prelude.{ℕ, ◌+◌, ◌≤◌, ◌<◌, true, false, List, [], ◌≡◌, refl, length, take, drop, Ok}
use Rattle.std.proofs.Math.Option.{Option, none, some}
use Rattle.std.proofs.Common.{sym, ◌∙◌, arith, length-append, length-take, le-ltb}
use Rattle.common.specs.Facts.{clash}
use Rattle.common.specs.Order.{first}
use Rattle.window.specs.Store.{store_place}
use Rattle.wire.specs.Frame.{prefix_for}
use Rattle.wire.specs.Flags.{six_of, outside}
use Rattle.wire.specs.Write.{packet_bytes, datagram_of, write_answer}
use Rattle.wire.specs.Same.{Says}
use Rattle.wire.specs.WrittenReadsBack.{written_reads_back}
use Rattle.wire.specs.Round.Accepted.{wrote}
use Rattle.wire.specs.Round.Framing.{framed_length}
use Rattle.common.specs.Answer.{written_of, left_of, room_answer}
use Rattle.sender.specs.Record.{longest_sent, State, block_at, contents}
use Rattle.sender.specs.Send.{data_values, data_bytes, new_answer, new_datagram, lowest_waiting, is_none, resend_answer, resend_datagram}
use Rattle.sender.specs.Facts.{consistent_facts}
use Rattle.sender.specs.SendReady.{sound_facts, new_accepted, resend_accepted, resend_ready}

pub data_length : (low next c : ℕ) (b : List ℕ) → length (data_bytes low next c b) ≡ 9 + length b
unfolding data_bytes datagram_of packet_bytes
data_length low next c b =
    let l = length-append b [] in
    framed_length (prefix_for (packet_bytes (data_values low next c) [] [] b)) (packet_bytes (data_values low next c) [] [] b) ∙ omega arith

-- of a block that is short enough, nothing but the room decides
pub data_answer_lem : (low next c : ℕ) (b : List ℕ) (room : ℕ) → length b ≤ longest_sent
    → write_answer (data_values low next c) [] [] b room ≡ room_answer (data_bytes low next c b) room
unfolding write_answer room_answer data_bytes first outside six_of
data_answer_lem low next c b room h =
    let n : length (datagram_of (data_values low next c) [] [] b) ≤ 1232 = omega (arith, data_length low next c b) in
    rw (le-ltb 1232 (length (datagram_of (data_values low next c) [] [] b)) n) refl

-- THE THEOREM.
pub data_reads_back : (low next c : ℕ) (b : List ℕ) → length b ≤ longest_sent → Says (data_values low next c) [] [] b (data_bytes low next c b)
unfolding data_bytes room_answer first
data_reads_back low next c b h =
    let l = length (datagram_of (data_values low next c) [] [] b) in
    let fits = le-ltb (length (datagram_of (data_values low next c) [] [] b)) (length (datagram_of (data_values low next c) [] [] b)) (omega arith) in
    written_reads_back (data_values low next c) [] [] b (length (datagram_of (data_values low next c) [] [] b))
    (rw (data_answer_lem low next c b (length (datagram_of (data_values low next c) [] [] b)) h, fits) refl)

-- So with every new block that is accepted.
pub new_reads_back : (w cap : ℕ) (s : State) (block : List ℕ) (room : ℕ) → new_answer w cap s block room ≡ 0
    → Says (data_values s.sender.low.0 s.sender.next.0 s.sender.channelnext.0) [] [] block (new_datagram s block)
unfolding new_datagram
new_reads_back w cap s block room h =
    data_reads_back s.sender.low.0 s.sender.next.0 s.sender.channelnext.0 block (new_accepted w cap s block room h).short

-- And with every resend that is accepted: it carries the waiting block of lowest channel number, as the store has it, under the next data number.
pub resend_reads_back : (w cap : ℕ) → 0 < w → w ≤ cap → (s : State) (room c : ℕ) → resend_answer w cap s room ≡ 0 → lowest_waiting w s.sender ≡ some c
    → Says (data_values s.sender.low.0 s.sender.next.0 c) [] [] (contents w s c) (resend_datagram w s)
unfolding resend_datagram contents
resend_reads_back w cap lw uw s room c h e =
    let k = resend_accepted w cap s room h in
    let f = consistent_facts w cap s.sender lw uw (sound_facts w cap s.sender (length s.store) k.sound).0 in
    let n = (resend_ready w cap s c f k e).short in
    let t = length-take (block_at w s.sender c).length (drop (store_place w c) s.store) in
    rw e (data_reads_back s.sender.low.0 s.sender.next.0 c (contents w s c) (omega arith))

-- Of the calls. Where a new block is answered by k bytes written, the first k of the output, whatever was lent, read so.
pub new_then_read : (w cap : ℕ) (s : State) (block out : List ℕ) (k : ℕ)
    → written_of (new_answer w cap s block (length out)) (new_datagram s block) ≡ Ok k
    → Says (data_values s.sender.low.0 s.sender.next.0 s.sender.channelnext.0) [] [] block
    (take k (left_of (new_answer w cap s block (length out)) (new_datagram s block) out))
new_then_read w cap s block out k e =
    let (accepted, same) = wrote _ _ out k e in
    rw same (new_reads_back w cap s block (length out) (sym accepted))

-- some bytes, read, are the waiting block of lowest channel number, as the store has it, under the next data number
pub record Resent (w : ℕ) (s : State) (bytes : List ℕ) : Type 0 where
  pub channel : ℕ
  pub lowest : lowest_waiting w s.sender ≡ some channel
  pub says : Says (data_values s.sender.low.0 s.sender.next.0 channel) [] [] (contents w s channel) bytes

-- And where a resend is.
pub resend_then_read : (w cap : ℕ) → 0 < w → w ≤ cap → (s : State) (out : List ℕ) (k : ℕ)
    → written_of (resend_answer w cap s (length out)) (resend_datagram w s) ≡ Ok k
    → Resent w s (take k (left_of (resend_answer w cap s (length out)) (resend_datagram w s) out))
resend_then_read w cap lw uw s out k e =
    let (accepted, same) = wrote _ _ out k e in
    rw same (named (lowest_waiting w s.sender) refl (resend_accepted w cap s (length out) (sym accepted)).found (sym accepted))
  where
    named : (o : Option ℕ) → lowest_waiting w s.sender ≡ o → is_none o ≡ false → resend_answer w cap s (length out) ≡ 0 → Resent w s (resend_datagram w s)
    named none q f a = clash true refl f
    named (some c) q f a = record { channel = c; lowest = q; says = resend_reads_back w cap lw uw s (length out) c a q }
