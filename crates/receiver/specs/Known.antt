-- Every answer of the receiver's half is 0 or a refusal's number: what it stands for is told by its number alone.
use Rattle.std.specs.Prelude.{ℕ, Bool, true, List, [], ◌≡◌, refl, length, Err, Ok, Some, None}
use Rattle.std.proofs.Math.Option.{Option, none, some}
use Rattle.common.specs.Answer.{is_answer, no_known, first_known, known_either}
use Rattle.wire.specs.declared.Packet.{Packet as WirePacket}
use Rattle.wire.specs.Same.{body_in}
use Rattle.wire.specs.Read.{Reading, read_of}
use Rattle.receiver.specs.declared.Receiver.{Receiver}
use Rattle.receiver.specs.Record.{State}
use Rattle.receiver.specs.Consistent.{sound_of}
use Rattle.receiver.specs.Packet.{Arrival, nothing, waiver, content, arrival_answer, numbers_answer}
use Rattle.receiver.specs.Receive.{arrival_from, answer_for, values_answer, read_answer, receive_answer}
use Rattle.receiver.specs.Take.{take_answer}
use Rattle.receiver.specs.Acknowledge.{acknowledge_answer}

arrival_known : (w : ℕ) (r : Receiver) (a : Arrival) → is_answer (arrival_answer w r a) ≡ true
unfolding arrival_answer numbers_answer is_answer
arrival_known w r nothing = refl
arrival_known w r (waiver v) = first_known _ refl
arrival_known w r (content p) = first_known _ refl

for_known : (w : ℕ) (r : Receiver) (a : Option Arrival) → is_answer (answer_for w r a) ≡ true
unfolding is_answer
for_known w r none = refl
for_known w r (some a) = arrival_known w r a

pub values_known : (w : ℕ) (r : Receiver) (d : List ℕ) (p : WirePacket) → is_answer (values_answer w r d p) ≡ true
unfolding values_answer
values_known w r d p = for_known w r (arrival_from r p.values (body_in d p))

read_known : (w : ℕ) (r : Receiver) (d : List ℕ) (x : Reading) → is_answer (read_answer w r d x) ≡ true
unfolding read_answer is_answer
read_known w r d (Err x) = no_known x
read_known w r d (Ok None) = refl
read_known w r d (Ok (Some p)) = values_known w r d p

pub receive_known : (w cap : ℕ) (s : State) (d : List ℕ) → is_answer (receive_answer w cap s d) ≡ true
unfolding receive_answer is_answer
receive_known w cap s d = known_either (sound_of w cap s.receiver (length s.store)) _ 13 (read_known w s.receiver d (read_of d)) refl

pub take_known : (w cap : ℕ) (s : State) (room : ℕ) → is_answer (take_answer w cap s room) ≡ true
unfolding take_answer is_answer
take_known w cap s room = first_known _ refl

pub acknowledge_known : (w cap : ℕ) (r : Receiver) (stamp gap room : ℕ) → is_answer (acknowledge_answer w cap r stamp gap room) ≡ true
unfolding acknowledge_answer is_answer
acknowledge_known w cap r stamp gap room = first_known _ refl
