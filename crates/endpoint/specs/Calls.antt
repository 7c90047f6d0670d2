-- Every call of an endpoint: its answer, what it leaves of the endpoint and of the lent output, and what a sequence of calls leaves.
use Rattle.std.specs.Prelude.{ℕ, List, [], ◌∷◌}
use Rattle.common.specs.Answer.{left_of}
use Rattle.receiver.specs.declared.Receiver.{Receiver}
use Rattle.receiver.specs.Take.{take_answer, block_due, taken_of}
use Rattle.receiver.specs.Acknowledge.{acknowledge_answer, acknowledgement_of}
use Rattle.sender.specs.declared.Sender.{Sender}
use Rattle.sender.specs.Record as sending
use Rattle.sender.specs.Send.{new_answer, new_datagram, new_of, resend_answer, resend_datagram, resend_of}
use Rattle.sender.specs.Sweep.{sweep_answer, sweep_of}
use Rattle.endpoint.specs.Receive.{Halves, receiver_of, receive_answer, receive_of}

-- both halves with their stores
pub record Endpoint : Type 0 where
  pub halves : Halves
  pub sent : List ℕ

-- the calls, with what the host hands in
pub data Call : Type 0 where
  receives : (datagram : List ℕ) → Call
  takes : (room : ℕ) → Call
  acknowledges : (stamp gap room : ℕ) → Call
  sends : (tick : ℕ) (block : List ℕ) (room : ℕ) → Call
  resends : (tick room : ℕ) → Call
  sweeps : (tick : ℕ) → Call

abbrev pub sending_of : Endpoint → sending.State
sending_of e = record { sender = e.halves.sender; store = e.sent }

abbrev pub with_sender : Endpoint → Sender → List ℕ → Endpoint
with_sender e s b = record { halves = record { sender = s; receiver = e.halves.receiver; store = e.halves.store }; sent = b }

abbrev pub with_receiver : Endpoint → Receiver → Endpoint
with_receiver e r = record { halves = record { sender = e.halves.sender; receiver = r; store = e.halves.store }; sent = e.sent }

-- the number that answers a call: 0, or the refusal of document 01, or of document 02 where a request adds one
unfoldable pub answer_of : ℕ → ℕ → Endpoint → Call → ℕ
answer_of w cap e (receives d) = receive_answer w cap e.halves d
answer_of w cap e (takes room) = take_answer w cap (receiver_of e.halves) room
answer_of w cap e (acknowledges stamp gap room) = acknowledge_answer w cap e.halves.receiver stamp gap room
answer_of w cap e (sends tick block room) = new_answer w cap (sending_of e) block room
answer_of w cap e (resends tick room) = resend_answer w cap (sending_of e) room
answer_of w cap e (sweeps tick) = sweep_answer w cap e.halves.sender

-- what a call writes if it is accepted; to receive and to sweep is to write nothing
unfoldable pub writes_of : ℕ → Endpoint → Call → List ℕ
writes_of w e (receives d) = []
writes_of w e (takes room) = block_due w (receiver_of e.halves)
writes_of w e (acknowledges stamp gap room) = acknowledgement_of w e.halves.receiver stamp gap
writes_of w e (sends tick block room) = new_datagram (sending_of e) block
writes_of w e (resends tick room) = resend_datagram w (sending_of e)
writes_of w e (sweeps tick) = []

-- the lent output as a call leaves it; its length is the call's room, and a call that writes nothing is lent none
abbrev pub output_of : ℕ → ℕ → Endpoint → Call → List ℕ → List ℕ
output_of w cap e c out = left_of (answer_of w cap e c) (writes_of w e c) out

-- what a call leaves of the endpoint, accepted or refused; writing an acknowledgement changes no record
unfoldable pub call_of : ℕ → ℕ → Endpoint → Call → Endpoint
call_of w cap e (receives d) = record { halves = receive_of w cap e.halves d; sent = e.sent }
call_of w cap e (takes room) = with_receiver e (taken_of w cap (receiver_of e.halves) room)
call_of w cap e (acknowledges stamp gap room) = e
call_of w cap e (sends tick block room) =
    with_sender e (new_of w cap (sending_of e) tick block room).sender (new_of w cap (sending_of e) tick block room).store
call_of w cap e (resends tick room) = with_sender e (resend_of w cap (sending_of e) tick room) e.sent
call_of w cap e (sweeps tick) = with_sender e (sweep_of w cap e.halves.sender tick) e.sent

unfoldable pub calls_of : ℕ → ℕ → Endpoint → List Call → Endpoint
calls_of w cap e [] = e
calls_of w cap e (c ∷ cs) = calls_of w cap (call_of w cap e c) cs
