-- Judging what a packet's values bring, apart from the block's bytes and before anything is changed; and what the judged numbers then leave.
use Rattle.std.specs.Prelude.{ℕ, List, [], Option as Found, Some, None, Result, Ok, Err}
use Rattle.std.proofs.Math.Option.{Option, none, some}
use Rattle.common.specs.declared.Refusal.{Refusal}
use Rattle.common.specs.declared.Refusal.TheVariants.{OutOfPlace}
use Rattle.common.specs.Answer.{settled}
use Rattle.numbers.specs.declared.DataNumber.{DataNumber}
use Rattle.wire.specs.declared.Values.{Values}
use Rattle.receiver.specs.declared.Receiver.{Receiver}
use Rattle.receiver.specs.Record.{State}
use Rattle.receiver.specs.Packet.{Packet, Arrival, nothing, waiver, content, waived, arrival_answer, receiver_after, waiver_after, store_after}
use Rattle.receiver.specs.Receive.{arrival_from}
use Rattle.judging.specs.declared.Arrived.{Arrived}
use Rattle.judging.specs.declared.Arrived.TheVariants.{Nothing, Waiver, Content}

-- a number that a field stands for, as one of its kind, and the number below which all is waived
unfoldable pub found_as : {N : Type 0} → (ℕ → N) → Option ℕ → Found N
found_as of none = None
found_as of (some n) = Some (of n)

unfoldable pub waived_at : Option (Option ℕ) → Found DataNumber
waived_at none = None
waived_at (some a) = Some (record { 0 = waived a })

-- the numbers of an arrival
abbrev pub numbers_in : Arrival → Arrived
numbers_in nothing = Nothing
numbers_in (waiver v) = Waiver (record { 0 = v })
numbers_in (content p) = Content (record { 0 = p.number }) (record { 0 = p.channel }) (record { 0 = waived p.aoa })

-- "a data, channel or AckOfAcks number out of place" is refused; any other arrival is accepted or refused by its own answer
abbrev pub judged_for : ℕ → Receiver → Option Arrival → Result Arrived Refusal
judged_for w r none = Err OutOfPlace
judged_for w r (some a) = settled (arrival_answer w r a) (numbers_in a)

-- a block's bytes do not matter: it is judged as if it had none
unfoldable pub judged_of : ℕ → Receiver → Values → Result Arrived Refusal
judged_of w r v = judged_for w r (arrival_from r v [])

-- a packet of these numbers, all below v waived
abbrev pub packet_with : ℕ → ℕ → ℕ → List ℕ → Packet
packet_with n c v block = record { number = n; channel = c; aoa = some v; block = block }

-- the state that judged numbers leave, with the block that came; a refusal leaves the state as it was
unfoldable pub left_by : ℕ → State → List ℕ → Result Arrived Refusal → State
left_by w s block (Err refusal) = s
left_by w s block (Ok Nothing) = s
left_by w s block (Ok (Waiver v)) = record { receiver = waiver_after w s.receiver v.0; store = s.store }
left_by w s block (Ok (Content n c v)) =
    record {
      receiver = receiver_after w s.receiver (packet_with n.0 c.0 v.0 block);
      store = store_after w s (packet_with n.0 c.0 v.0 block);
    }
