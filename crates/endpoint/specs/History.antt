-- Histories of an endpoint, of which demand 3 speaks: datagrams that arrive and takes, as calls; the blocks that calls hand over; what such datagrams carry; and
-- the calls that may stand between acknowledgements.
use Rattle.std.specs.Prelude.{ℕ, ◌+◌, Bool, false, ◌||◌, List, [], ◌∷◌, ◌++◌, map, ◌⊎◌, ◌≡◌, Ok, Some}
use Rattle.wire.specs.declared.Packet.{Packet}
use Rattle.wire.specs.Flags.{ack_in, vector_in}
use Rattle.wire.specs.Read.{read_of}
use Rattle.receiver.specs.Record.{State}
use Rattle.receiver.specs.Receive.{receive_answer}
use Rattle.receiver.specs.History.{Event, arrives, takes, step_of, given_of}
use Rattle.sender.specs.Remembering.{is_heard}
use Rattle.sender.specs.Run.{accepted_in}
use Rattle.endpoint.specs.Receive.{Halves, receiver_of}
use Rattle.endpoint.specs.Calls.{Endpoint, Call, receives, acknowledges, sends, resends, sweeps, call_of, calls_of}
use Rattle.endpoint.specs.Calls as calls

abbrev pub call_for : Event → Call
call_for (arrives d) = receives d
call_for (takes room) = calls.takes room

-- what a history leaves: "each call is given the records and stores as the call before left them"
abbrev pub after : ℕ → ℕ → Endpoint → List Event → Endpoint
after w cap e es = calls_of w cap e (map call_for es)

-- the block that a call hands over: an accepted take does, and nothing else
abbrev pub given_by : ℕ → ℕ → Endpoint → Call → List (List ℕ)
given_by w cap e (receives d) = []
given_by w cap e (calls.takes room) = given_of w cap (receiver_of e.halves) room
given_by w cap e (acknowledges stamp gap room) = []
given_by w cap e (sends tick block room) = []
given_by w cap e (resends tick room) = []
given_by w cap e (sweeps tick) = []

unfoldable pub handed_by : ℕ → ℕ → Endpoint → List Call → List (List ℕ)
handed_by w cap e [] = []
handed_by w cap e (c ∷ cs) = given_by w cap e c ++ handed_by w cap (call_of w cap e c) cs

abbrev pub handed : ℕ → ℕ → Endpoint → List Event → List (List ℕ)
handed w cap e es = handed_by w cap e (map call_for es)

-- "packets of data, with or without AckOfAcks", "no other payload": read, it has the flags DATA, or AOA and DATA
abbrev pub OnlyData : List ℕ → Type 0
OnlyData d = (p : Packet) → read_of d ≡ Ok (Some p) → (p.values.flags ≡ 0x004) ⊎ (p.values.flags ≡ 0x010 + 0x004)

-- "packets carrying an acknowledgement only": read, it has the flag ACK alone, or ACKVEC alone; one that does not read may stand among them
abbrev pub OnlyAck : List ℕ → Type 0
OnlyAck d = (p : Packet) → read_of d ≡ Ok (Some p) → (p.values.flags ≡ 0x001) ⊎ (p.values.flags ≡ 0x008)

-- a datagram with no acknowledgement: read, it has neither the flag ACK nor the flag ACKVEC
abbrev pub NoAck : List ℕ → Type 0
NoAck d = (p : Packet) → read_of d ≡ Ok (Some p) → (ack_in p.values.flags ≡ false) × (vector_in p.values.flags ≡ false)

-- "with no send, resend or sweep between": calls cs by which the acknowledgements ds are received, in this order, and the events es happen, datagrams with no
-- acknowledgement and takes, these too in this order; acknowledgements may be written at any moment
pub data Between : List Call → List (List ℕ) → List Event → Type 0 where
  nothing : Between [] [] []
  tells : {cs : List Call} {ds : List (List ℕ)} {es : List Event} (d : List ℕ) → OnlyAck d → Between cs ds es → Between (receives d ∷ cs) (d ∷ ds) es
  brings : {cs : List Call} {ds : List (List ℕ)} {es : List Event} (d : List ℕ) → NoAck d → Between cs ds es → Between (receives d ∷ cs) ds (arrives d ∷ es)
  taken : {cs : List Call} {ds : List (List ℕ)} {es : List Event} (room : ℕ) → Between cs ds es → Between (calls.takes room ∷ cs) ds (takes room ∷ es)
  written : {cs : List Call} {ds : List (List ℕ)} {es : List Event} (stamp gap room : ℕ) → Between cs ds es
      → Between (acknowledges stamp gap room ∷ cs) ds es

-- is one of these events' datagrams a packet of type 0, and accepted by a receiver's half that stands so?
unfoldable pub brought_in : ℕ → ℕ → State → List Event → Bool
brought_in w cap r [] = false
brought_in w cap r (arrives d ∷ es) = is_heard (receive_answer w cap r d) d || brought_in w cap (step_of w cap r (arrives d)) es
brought_in w cap r (takes room ∷ es) = brought_in w cap (step_of w cap r (takes room)) es

-- is a packet accepted at an outset, one of these acknowledgements or one of these events' datagrams?
abbrev pub heard_in : ℕ → ℕ → Halves → List (List ℕ) → List Event → Bool
heard_in w cap e ds es = accepted_in w cap e.sender ds || brought_in w cap (receiver_of e) es
