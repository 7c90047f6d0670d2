-- A `Result` by `settled`, `answered_of` or `written_of` tells the number that it was made by where that is 0 or a refusal's (`is_answer` of common/specs/Answer). Every
-- number that a contract settles is such a one. Those of the endpoint's calls, of its halves' and of a session's stand in endpoint/specs/Known, receiver/specs/Known,
-- sender/specs/Known and session/specs/Known; here are the others, and then, call by call, that the number of what is answered is the definition's.
use Rattle.std.specs.Prelude.{ℕ, Bool, true, false, cond, List, ◌≡◌, refl, eqb, Option, Some, None, Ok, Err}
use Rattle.std.proofs.Common.{ne_eqb, eq-eqb}
use Rattle.common.specs.Facts.{clash}
use Rattle.common.specs.Order.{first}
use Rattle.common.specs.Answer.{is_answer, refusal_of, no_back, first_known, number_of, settled, answered_of, written_of, number_settled, number_written, number_answered, room_answer}
use Rattle.vector.specs.Rule as vector
use Rattle.wire.specs.declared.Values.{Values}
use Rattle.wire.specs.declared.Packet.{Packet}
use Rattle.wire.specs.Frame.{swapped, byte_at, type_in, end_of}
use Rattle.wire.specs.Read.{Reading, refused, frame_tests, packet_tests, payload_tests, read_packet, read_of}
use Rattle.wire.specs.Layout.{flags_of, packet_of}
use Rattle.wire.specs.Write.{value_tests, write_answer}
use Rattle.copying.specs.Copy.{copy_answer}
use Rattle.listing.specs.Lines as listing
use Rattle.trace.specs.Read.{data_answer}
use Rattle.trace.specs.Write.{event_answer}
use Rattle.receiver.specs.declared.Receiver.{Receiver}
use Rattle.receiver.specs.Record as taking
use Rattle.receiver.specs.Receive as arriving
use Rattle.receiver.specs.Take.{take_answer}
use Rattle.receiver.specs.Acknowledge as reporting
use Rattle.receiver.specs.Known as receiver
use Rattle.sender.specs.declared.Sender.{Sender}
use Rattle.sender.specs.Record as sending
use Rattle.sender.specs.Acknowledge as acknowledging
use Rattle.sender.specs.Send.{new_answer, resend_answer}
use Rattle.sender.specs.Sweep.{sweep_answer}
use Rattle.sender.specs.Known as sender
use Rattle.endpoint.specs.Open.{open_answer, told_of, opened_of}
use Rattle.endpoint.specs.Receive.{Halves, receive_answer}
use Rattle.endpoint.specs.Calls.{Endpoint, Call, answer_of}
use Rattle.endpoint.specs.Known.{receive_known, answers_known}
use Rattle.session.specs.Call.{Made}
use Rattle.session.specs.Open.{Opening}
use Rattle.session.specs.Place.{place_answer}
use Rattle.session.specs.Known.{place_known, opened_known}
use Rattle.session.specs.Shapes.{opened_by, granted_by, counted_by, tally_by}

-- "14: output buffer too short for this answer"
pub room_known : (b : List ℕ) (room : ℕ) → is_answer (room_answer b room) ≡ true
unfolding room_answer is_answer
room_known b room = first_known _ refl

pub vector_known : (ss : List Bool) (room : ℕ) → is_answer (vector.answer_of ss room) ≡ true
unfolding vector.answer_of
vector_known ss room = room_known (vector.vector_of ss) room

pub listing_known : (d : List ℕ) (room : ℕ) → is_answer (listing.answer_of d room) ≡ true
unfolding listing.answer_of
listing_known d room = room_known (listing.listing_of d) room

-- reading: the frame's tests, and the packet's with its payloads'
pub frame_known : (d : List ℕ) → is_answer (first (frame_tests d)) ≡ true
unfolding is_answer
frame_known d = first_known _ refl

pub packet_known : (p : List ℕ) (end : ℕ) → is_answer (first (packet_tests p end)) ≡ true
unfolding is_answer
packet_known p end = first_known _ refl

pub payload_known : (p : List ℕ) (f end : ℕ) → is_answer (first (payload_tests p f end)) ≡ true
unfolding is_answer
payload_known p f end = first_known _ refl

-- so the refusal of a reading has the number of the first test that holds: 1 or 2 of the frame, and of a packet of type 0 then 3, 4, 5 or 6
settles : (n : ℕ) (r : Reading) → (n ≡ 0 → ⊥) → is_answer n ≡ true → number_of (refused n r) ≡ n
settles n r h k = rw (ne_eqb n 0 h) (no_back n k h)

pub read_frame_number : (d : List ℕ) → (first (frame_tests d) ≡ 0 → ⊥) → number_of (read_of d) ≡ first (frame_tests d)
unfolding read_of
read_frame_number d h = settles (first (frame_tests d)) _ h (frame_known d)

pub read_packet_number : (p : List ℕ) (end : ℕ) → number_of (read_packet p end) ≡ first (packet_tests p end)
unfolding read_packet
read_packet_number p end = number_settled {A = Option Packet} (first (packet_tests p end)) (Some (packet_of p (flags_of p) end)) (packet_known p end)

-- writing a packet
pub values_known : (v : Values) (additions vector : ℕ) → is_answer (first (value_tests v additions vector)) ≡ true
unfolding is_answer
values_known v additions vector = first_known _ refl

pub write_known : (v : Values) (additions vector body : List ℕ) (room : ℕ) → is_answer (write_answer v additions vector body room) ≡ true
unfolding write_answer is_answer
write_known v additions vector body room = first_known _ refl

-- copying a part, a line of data read, an event written, and an endpoint opened
pub copy_known : (d : List ℕ) (from n room : ℕ) → is_answer (copy_answer d from n room) ≡ true
unfolding copy_answer is_answer
copy_known d from n room = first_known _ refl

pub data_known : (kind : ℕ) (line : List ℕ) (room : ℕ) → is_answer (data_answer kind line room) ≡ true
unfolding data_answer is_answer
data_known kind line room = first_known _ refl

pub event_known : (tick kind : ℕ) (bytes : List ℕ) (room : ℕ) → is_answer (event_answer tick kind bytes room) ≡ true
unfolding event_answer is_answer
event_known tick kind bytes room = first_known _ refl

pub open_known : (firstdata firstchannel timeout : ℕ) → is_answer (open_answer firstdata firstchannel timeout) ≡ true
unfolding open_answer is_answer
open_known firstdata firstchannel timeout = first_known _ refl

-- The answer of each call, as its contract gives it, has the number of the definition that the contract cites: for all that it is given, refused or not, and
-- whatever bytes it writes. Those of a session's calls are `made_told` and `opening_told` of session/specs/Known. `carrying::put_data`, `trace_head::head` and
-- `replayer::replay` are refused for room alone.
pub room_number : (part : List ℕ) (room : ℕ) (b : List ℕ) → number_of (written_of (room_answer part room) b) ≡ room_answer part room
room_number part room b = number_written (room_answer part room) b (room_known part room)

pub vector_number : (ss : List Bool) (room : ℕ) (b : List ℕ) → number_of (written_of (vector.answer_of ss room) b) ≡ vector.answer_of ss room
vector_number ss room b = number_written (vector.answer_of ss room) b (vector_known ss room)

pub listing_number : (d : List ℕ) (room : ℕ) (b : List ℕ) → number_of (written_of (listing.answer_of d room) b) ≡ listing.answer_of d room
listing_number d room b = number_written (listing.answer_of d room) b (listing_known d room)

-- reading: the frame's number where that refuses, 0 for a dummy, and else the packet's
pub read_number : (d : List ℕ)
    → number_of (read_of d)
    ≡ cond (eqb (first (frame_tests d)) 0) (cond (eqb (type_in (byte_at (swapped d) 0)) 8) 0 (first (packet_tests (swapped d) (end_of (swapped d))))) (first (frame_tests d))
unfolding read_of
read_number d = go (eqb (first (frame_tests d)) 0) (eqb (type_in (byte_at (swapped d) 0)) 8) refl
  where
    p : Reading
    p = read_packet (swapped d) (end_of (swapped d))

    go : (a b : Bool) → eqb (first (frame_tests d)) 0 ≡ a
        → number_of {A = Option Packet} (cond a (cond b (Ok None) p) (Err (refusal_of (first (frame_tests d)))))
        ≡ cond a (cond b 0 (first (packet_tests (swapped d) (end_of (swapped d))))) (first (frame_tests d))
    go true true e = refl
    go true false e = read_packet_number (swapped d) (end_of (swapped d))
    go false b e = no_back (first (frame_tests d)) (frame_known d) (λ z. clash (eqb (first (frame_tests d)) 0) (eq-eqb (first (frame_tests d)) 0 z) e)

pub write_number : (v : Values) (additions vector body : List ℕ) (room : ℕ) (b : List ℕ)
    → number_of (written_of (write_answer v additions vector body room) b) ≡ write_answer v additions vector body room
write_number v additions vector body room b =
    number_written (write_answer v additions vector body room) b (write_known v additions vector body room)

pub judge_values_number : (v : Values) (additions vector : ℕ) → number_of (answered_of (first (value_tests v additions vector))) ≡ first (value_tests v additions vector)
judge_values_number v additions vector = number_answered (first (value_tests v additions vector)) (values_known v additions vector)

pub copy_number : (d : List ℕ) (from n room : ℕ) (b : List ℕ) → number_of (written_of (copy_answer d from n room) b) ≡ copy_answer d from n room
copy_number d from n room b = number_written (copy_answer d from n room) b (copy_known d from n room)

pub data_number : (kind : ℕ) (line : List ℕ) (room : ℕ) (b : List ℕ) → number_of (written_of (data_answer kind line room) b) ≡ data_answer kind line room
data_number kind line room b = number_written (data_answer kind line room) b (data_known kind line room)

pub event_number : (tick kind : ℕ) (bytes : List ℕ) (room : ℕ) (b : List ℕ)
    → number_of (written_of (event_answer tick kind bytes room) b) ≡ event_answer tick kind bytes room
event_number tick kind bytes room b = number_written (event_answer tick kind bytes room) b (event_known tick kind bytes room)

pub open_number : (firstdata firstchannel timeout : ℕ)
    → number_of (told_of (opened_of 32 firstdata firstchannel timeout)).answer ≡ (opened_of 32 firstdata firstchannel timeout).answer
open_number firstdata firstchannel timeout =
    number_answered (opened_of 32 firstdata firstchannel timeout).answer (opened_known firstdata firstchannel timeout)

-- the calls of both halves, and of an endpoint
module _ (w cap : ℕ) where
  pub arriving_number : (s : taking.State) (d : List ℕ) → number_of (answered_of (arriving.receive_answer w cap s d)) ≡ arriving.receive_answer w cap s d
  arriving_number s d = number_answered (arriving.receive_answer w cap s d) (receiver.receive_known w cap s d)

  pub take_number : (s : taking.State) (room : ℕ) (b : List ℕ) → number_of (written_of (take_answer w cap s room) b) ≡ take_answer w cap s room
  take_number s room b = number_written (take_answer w cap s room) b (receiver.take_known w cap s room)

  pub report_number : (r : Receiver) (stamp gap room : ℕ) (b : List ℕ)
      → number_of (written_of (reporting.acknowledge_answer w cap r stamp gap room) b) ≡ reporting.acknowledge_answer w cap r stamp gap room
  report_number r stamp gap room b = number_written (reporting.acknowledge_answer w cap r stamp gap room) b (receiver.acknowledge_known w cap r stamp gap room)

  pub acknowledge_number : (s : Sender) (d : List ℕ)
      → number_of (answered_of (acknowledging.acknowledge_answer w cap s d)) ≡ acknowledging.acknowledge_answer w cap s d
  acknowledge_number s d = number_answered (acknowledging.acknowledge_answer w cap s d) (sender.acknowledge_known w cap s d)

  pub send_number : (s : sending.State) (block : List ℕ) (room : ℕ) (b : List ℕ)
      → number_of (written_of (new_answer w cap s block room) b) ≡ new_answer w cap s block room
  send_number s block room b = number_written (new_answer w cap s block room) b (sender.new_known w cap s block room)

  pub resend_number : (s : sending.State) (room : ℕ) (b : List ℕ) → number_of (written_of (resend_answer w cap s room) b) ≡ resend_answer w cap s room
  resend_number s room b = number_written (resend_answer w cap s room) b (sender.resend_known w cap s room)

  pub sweep_number : (s : Sender) (lost : ℕ) → number_of (settled (sweep_answer w cap s) lost) ≡ sweep_answer w cap s
  sweep_number s lost = number_settled (sweep_answer w cap s) lost (sender.sweep_known w cap s)

  pub receive_number : (e : Halves) (d : List ℕ) → number_of (answered_of (receive_answer w cap e d)) ≡ receive_answer w cap e d
  receive_number e d = number_answered (receive_answer w cap e d) (receive_known w cap e d)

  pub call_number : (e : Endpoint) (c : Call) (lost : ℕ) → number_of (settled (answer_of w cap e c) lost) ≡ answer_of w cap e c
  call_number e c lost = number_settled (answer_of w cap e c) lost (answers_known w cap e c)

-- what is judged before a call on a session
pub place_number : (count number token owner : ℕ) → number_of (answered_of (place_answer count number token owner)) ≡ place_answer count number token owner
place_number count number token owner = number_answered (place_answer count number token owner) (place_known count number token owner)

-- What opening a session tells its caller is what the theorems on owners speak of.
pub opened_granted : (o : Opening) → (opened_by o).answer ≡ settled (granted_by o).answer (granted_by o).number
opened_granted o = refl

-- And so a sweep of a session, by its two numbers.
pub counted_told : (m : Made) → (counted_by m).answer ≡ settled (tally_by m).answer (tally_by m).lost
counted_told m = refl
