-- Receiving one datagram into the receiver's half: "13, then reading, then .. 7". Each field is widened against the record as given.
use Rattle.std.specs.Prelude.{ℕ, Bool, cond, List, length, Err, Ok, Some, None}
use Rattle.std.proofs.Math.Option.{Option, none, some}
use Rattle.numbers.specs.declared.Widened.{Widened}
use Rattle.numbers.specs.declared.Widened.TheVariants.{At, Below, Unclear}
use Rattle.numbers.specs.Widen.{widen_of, out_of}
use Rattle.wire.specs.declared.Values.{Values}
use Rattle.wire.specs.declared.Packet.{Packet as WirePacket}
use Rattle.wire.specs.Flags.{data_in, aoa_in}
use Rattle.common.specs.Answer.{no_of}
use Rattle.wire.specs.Read.{read_of, Reading}
use Rattle.wire.specs.Same.{body_in}
use Rattle.receiver.specs.declared.Receiver.{Receiver}
use Rattle.receiver.specs.Record.{State}
use Rattle.receiver.specs.Consistent.{sound_of}
use Rattle.receiver.specs.Packet.{Packet, Arrival, nothing, waiver, content, arrival_answer, arrival_of}

-- the number that a field stands for; "A result below the first number of its kind is out of place", and so is an unclear one
abbrev pub in_place : ℕ → Widened ℕ → Option ℕ
in_place first (At n) = cond (out_of first (At n)) none (some n)
in_place first (Below m) = none
in_place first Unclear = none

unfoldable pub on_some : {A B : Type 0} → Option A → (A → Option B) → Option B
on_some none f = none
on_some (some a) f = f a

-- "R is: the receiver's base for data and AckOfAcks, the next channel number due for channel"
unfoldable pub data_number : Receiver → ℕ → Option ℕ
data_number r f = in_place r.firstdata.0 (widen_of r.base.0 f)

unfoldable pub channel_number : Receiver → ℕ → Option ℕ
channel_number r f = in_place r.firstchannel.0 (widen_of r.due.0 f)

-- an AckOfAcks where it is flagged, v what its field stands for
unfoldable pub if_flagged : Bool → Option ℕ → Option (Option ℕ)
if_flagged flag v = cond flag (on_some v (λ n. some (some n))) (some none)

abbrev pub aoa_number : Receiver → Bool → ℕ → Option (Option ℕ)
aoa_number r flag f = if_flagged flag (data_number r f)

-- what a packet's values bring the receiver; none where a number is out of place
unfoldable pub packet_from : Receiver → Values → List ℕ → Option Packet
packet_from r v block =
    on_some (aoa_number r (aoa_in v.flags) v.aoa) λ a.
    on_some (data_number r v.number) λ n.
    on_some (channel_number r v.channel) λ c.
    some (record { number = n; channel = c; aoa = a; block = block })

unfoldable pub waiver_from : Receiver → Values → Option Arrival
waiver_from r v = cond (aoa_in v.flags) (on_some (data_number r v.aoa) (λ n. some (waiver n))) (some nothing)

unfoldable pub arrival_from : Receiver → Values → List ℕ → Option Arrival
arrival_from r v block = cond (data_in v.flags) (on_some (packet_from r v block) (λ p. some (content p))) (waiver_from r v)

-- "a data, channel or AckOfAcks number out of place" is 7
abbrev pub answer_for : ℕ → Receiver → Option Arrival → ℕ
answer_for w r none = 7
answer_for w r (some a) = arrival_answer w r a

abbrev pub state_for : ℕ → State → Option Arrival → State
state_for w s none = s
state_for w s (some a) = arrival_of w s a

-- the values that a datagram was read as
unfoldable pub values_answer : ℕ → Receiver → List ℕ → WirePacket → ℕ
values_answer w r d p = answer_for w r (arrival_from r p.values (body_in d p))

unfoldable pub values_of : ℕ → State → List ℕ → WirePacket → State
values_of w s d p = state_for w s (arrival_from s.receiver p.values (body_in d p))

-- "Type 8 is a dummy: accepted, .. nothing changed."
unfoldable pub read_answer : ℕ → Receiver → List ℕ → Reading → ℕ
read_answer w r d (Err n) = no_of n
read_answer w r d (Ok None) = 0
read_answer w r d (Ok (Some p)) = values_answer w r d p

unfoldable pub read_into : ℕ → State → List ℕ → Reading → State
read_into w s d (Err n) = s
read_into w s d (Ok None) = s
read_into w s d (Ok (Some p)) = values_of w s d p

-- the whole call
unfoldable pub receive_answer : ℕ → ℕ → State → List ℕ → ℕ
receive_answer w cap s d =
    cond (sound_of w cap s.receiver (length s.store)) (read_answer w s.receiver d (read_of d)) 13

unfoldable pub receive_of : ℕ → ℕ → State → List ℕ → State
receive_of w cap s d = cond (sound_of w cap s.receiver (length s.store)) (read_into w s d (read_of d)) s
