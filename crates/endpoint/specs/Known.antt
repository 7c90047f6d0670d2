-- Every answer of an endpoint is 0 or a refusal's number: what it stands for is told by its number alone.
use Rattle.std.specs.Prelude.{ℕ, true, List, ◌≡◌, refl, eqb, Err, Ok, Some, None}
use Rattle.common.specs.Answer.{is_answer, no_known, known_either}
use Rattle.wire.specs.declared.Packet.{Packet}
use Rattle.wire.specs.Read.{Reading, read_of}
use Rattle.receiver.specs.Known as receiver
use Rattle.sender.specs.Known.{told_known, new_known, resend_known, sweep_known}
use Rattle.sender.specs.Acknowledge.{told_answer, told_by}
use Rattle.endpoint.specs.Receive.{Halves, receiver_of, sound_of, packet_answer, read_answer, receive_answer}
use Rattle.endpoint.specs.Calls.{Endpoint, Call, receives, takes, acknowledges, sends, resends, sweeps, sending_of, answer_of}

packet_known : (w : ℕ) (e : Halves) (d : List ℕ) (p : Packet) → is_answer (packet_answer w e d p) ≡ true
unfolding packet_answer
packet_known w e d p =
    let t = told_known e.sender (told_by e.sender d p) in
    known_either (eqb (told_answer e.sender (told_by e.sender d p)) 0) _ _ (receiver.values_known w e.receiver d p) t

read_known : (w : ℕ) (e : Halves) (d : List ℕ) (x : Reading) → is_answer (read_answer w e d x) ≡ true
unfolding read_answer is_answer
read_known w e d (Err r) = no_known r
read_known w e d (Ok None) = refl
read_known w e d (Ok (Some p)) = packet_known w e d p

pub receive_known : (w cap : ℕ) (e : Halves) (d : List ℕ) → is_answer (receive_answer w cap e d) ≡ true
unfolding receive_answer is_answer
receive_known w cap e d = known_either (sound_of w cap e) _ 13 (read_known w e d (read_of d)) refl

pub answers_known : (w cap : ℕ) (e : Endpoint) (c : Call) → is_answer (answer_of w cap e c) ≡ true
unfolding answer_of
answers_known w cap e (receives d) = receive_known w cap e.halves d
answers_known w cap e (takes room) = receiver.take_known w cap (receiver_of e.halves) room
answers_known w cap e (acknowledges stamp gap room) = receiver.acknowledge_known w cap e.halves.receiver stamp gap room
answers_known w cap e (sends tick block room) = new_known w cap (sending_of e) block room
answers_known w cap e (resends tick room) = resend_known w cap (sending_of e) room
answers_known w cap e (sweeps tick) = sweep_known w cap e.halves.sender
