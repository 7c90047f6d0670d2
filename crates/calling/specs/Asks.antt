-- What an event asks of the endpoint, and what the endpoint answers. "An `ack` takes the tick as its time stamp and gap 0." Every buffer is as long
-- as the longest datagram, 1,232 bytes, so none is too short.
use Rattle.std.specs.Prelude.{ℕ, cond, List, [], ◌∷◌, eqb}
use Rattle.trace.specs.Kinds.{kind_in, kind_send, kind_resend, kind_take, kind_sweep}
use Rattle.trace.specs.Read.{Event}
use Rattle.sender.specs.Sweep.{sweep_count}
use Rattle.receiver.specs.declared.Receiver.{Receiver}
use Rattle.sender.specs.declared.Sender.{Sender}
use Rattle.endpoint.specs.Receive.{halves}
use Rattle.endpoint.specs.Calls.{Endpoint, Call, receives, takes, acknowledges, sends, resends, sweeps}

-- both halves with the two stores
abbrev pub endpoint_with : Sender → Receiver → List ℕ → List ℕ → Endpoint
endpoint_with s r store sent = record { halves = halves s r store; sent = sent }

-- the call of an event, by its kind
unfoldable pub call_by : ℕ → ℕ → List ℕ → Call
call_by kind tick bytes =
    cond (eqb kind kind_in) (receives bytes)
    (cond (eqb kind kind_send) (sends tick bytes 1232)
    (cond (eqb kind kind_resend) (resends tick 1232)
    (cond (eqb kind kind_take) (takes 1232) (cond (eqb kind kind_sweep) (sweeps tick) (acknowledges tick 0 1232)))))

abbrev pub call_for : Event → Call
call_for x = call_by x.kind x.tick x.bytes

unfoldable pub calls_for : List Event → List Call
calls_for [] = []
calls_for (x ∷ xs) = call_for x ∷ calls_for xs

-- how many a sweep finds lost; other calls find none
unfoldable pub lost_to : Endpoint → Call → ℕ
lost_to e (receives d) = 0
lost_to e (takes room) = 0
lost_to e (acknowledges stamp gap room) = 0
lost_to e (sends tick block room) = 0
lost_to e (resends tick room) = 0
lost_to e (sweeps tick) = sweep_count 32 32 e.halves.sender tick
