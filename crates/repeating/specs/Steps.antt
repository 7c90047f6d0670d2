-- One call of each kind, with every lent buffer that it may change, as a step from one state to the next.
use Rattle.common.specs.declared.Refusal.{Refusal}
use Rattle.std.specs.Prelude.{ℕ, ◌+◌, ◌%◌, List, length, Err, Ok, Result}
use Rattle.common.specs.Answer.{no_of, written_of, left_of}
use Rattle.receiver.specs.declared.Receiver.{Receiver}
use Rattle.receiver.specs.Record as receiving
use Rattle.receiver.specs.Take.{take_answer, block_due, taken_of}
use Rattle.sender.specs.declared.Sender.{Sender}
use Rattle.sender.specs.Record as sending
use Rattle.sender.specs.Send.{new_answer, new_datagram, new_of}

-- the answer of a call that writes, as one number: the refusal's, or 256 and how many bytes were written
unfoldable pub written_number : Result ℕ Refusal → ℕ
written_number (Err r) = no_of r
written_number (Ok k) = 256 + k % 65536

-- a sender, its store and an output
pub record Sending : Type 0 where
  pub sender : Sender
  pub store : List ℕ
  pub out : List ℕ

abbrev pub sending_of : Sender → List ℕ → List ℕ → Sending
sending_of s store out = record { sender = s; store = store; out = out }

abbrev pub half_of : Sending → sending.State
half_of a = record { sender = a.sender; store = a.store }

abbrev pub send_step_of : ℕ → ℕ → ℕ → Sending → List ℕ → Sending
send_step_of w cap tick a block =
    record {
      sender = (new_of w cap (half_of a) tick block (length a.out)).sender;
      store = (new_of w cap (half_of a) tick block (length a.out)).store;
      out = left_of (new_answer w cap (half_of a) block (length a.out)) (new_datagram (half_of a) block) a.out;
    }

abbrev pub send_number_of : ℕ → ℕ → Sending → List ℕ → ℕ
send_number_of w cap a block = written_number (written_of (new_answer w cap (half_of a) block (length a.out)) (new_datagram (half_of a) block))

-- over a window of 32
abbrev pub send_step : ℕ → Sending → List ℕ → Sending
send_step = send_step_of 32 32

abbrev pub send_number : Sending → List ℕ → ℕ
send_number = send_number_of 32 32

-- a receiver and an output; its store does not change
pub record Taking : Type 0 where
  pub receiver : Receiver
  pub out : List ℕ

abbrev pub taking_of : Receiver → List ℕ → Taking
taking_of r out = record { receiver = r; out = out }

abbrev pub take_step_of : ℕ → ℕ → List ℕ → Taking → Taking
take_step_of w cap store a =
    record {
      receiver = taken_of w cap (receiving.state a.receiver store) (length a.out);
      out = left_of (take_answer w cap (receiving.state a.receiver store) (length a.out)) (block_due w (receiving.state a.receiver store)) a.out;
    }

abbrev pub take_number_of : ℕ → ℕ → List ℕ → Taking → ℕ
take_number_of w cap store a =
    written_number (written_of (take_answer w cap (receiving.state a.receiver store) (length a.out)) (block_due w (receiving.state a.receiver store)))

-- over a window of 32
abbrev pub take_step : List ℕ → Taking → Taking
take_step = take_step_of 32 32

abbrev pub take_number : List ℕ → Taking → ℕ
take_number = take_number_of 32 32
