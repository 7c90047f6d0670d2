-- Receiving one datagram into both halves: "13, then reading, then 8, then 7". A packet with an acknowledgement and data is judged whole before either half
-- changes; a dummy changes nothing. LogWindowSize is remembered by the sender's half (document 02, W5). DelayAckInfo and OverheadSize have no effect.
use Rattle.std.specs.Prelude.{ℕ, Bool, cond, List, [], ◌∷◌, length, eqb, Err, Ok, Some, None}
use Rattle.common.specs.Every.{every}
use Rattle.wire.specs.declared.Packet.{Packet}
use Rattle.common.specs.Answer.{no_of}
use Rattle.wire.specs.Read.{read_of, Reading}
use Rattle.receiver.specs.declared.Receiver.{Receiver}
use Rattle.receiver.specs.Record as receiving
use Rattle.receiver.specs.Consistent as receiver_tests
use Rattle.receiver.specs.Receive as receiver
use Rattle.sender.specs.declared.Sender.{Sender}
use Rattle.sender.specs.Consistent as sender_tests
use Rattle.sender.specs.Acknowledge.{told_answer, told_by}
use Rattle.sender.specs.Acknowledge as sender

-- both halves, and the store of the receiver's
pub record Halves : Type 0 where
  pub sender : Sender
  pub receiver : Receiver
  pub store : List ℕ

abbrev pub halves : Sender → Receiver → List ℕ → Halves
halves s r store = record { sender = s; receiver = r; store = store }

-- the receiver's half with its store
abbrev pub receiver_of : Halves → receiving.State
receiver_of e = record { receiver = e.receiver; store = e.store }

-- "13: a lent block store not 39,200 bytes, or an inconsistent record"; receive looks at both halves
unfoldable pub sound_of : ℕ → ℕ → Halves → Bool
sound_of w cap e =
    every (sender_tests.consistent_of w cap e.sender ∷ receiver_tests.sound_of w cap e.receiver (length e.store) ∷ [])

-- "then 8, then 7"
unfoldable pub packet_answer : ℕ → Halves → List ℕ → Packet → ℕ
packet_answer w e d p =
    cond (eqb (told_answer e.sender (told_by e.sender d p)) 0) (receiver.values_answer w e.receiver d p)
    (told_answer e.sender (told_by e.sender d p))

-- both halves told of an accepted packet
abbrev pub packet_told : ℕ → Halves → List ℕ → Packet → Halves
packet_told w e d p =
    record {
      sender = sender.packet_told w e.sender d p;
      receiver = (receiver.values_of w (receiver_of e) d p).receiver;
      store = (receiver.values_of w (receiver_of e) d p).store;
    }

unfoldable pub packet_of : ℕ → Halves → List ℕ → Packet → Halves
packet_of w e d p = cond (eqb (packet_answer w e d p) 0) (packet_told w e d p) e

unfoldable pub read_answer : ℕ → Halves → List ℕ → Reading → ℕ
read_answer w e d (Err n) = no_of n
read_answer w e d (Ok None) = 0
read_answer w e d (Ok (Some p)) = packet_answer w e d p

unfoldable pub read_into : ℕ → Halves → List ℕ → Reading → Halves
read_into w e d (Err n) = e
read_into w e d (Ok None) = e
read_into w e d (Ok (Some p)) = packet_of w e d p

-- the whole call
unfoldable pub receive_answer : ℕ → ℕ → Halves → List ℕ → ℕ
receive_answer w cap e d = cond (sound_of w cap e) (read_answer w e d (read_of d)) 13

unfoldable pub receive_of : ℕ → ℕ → Halves → List ℕ → Halves
receive_of w cap e d = cond (sound_of w cap e) (read_into w e d (read_of d)) e
