-- What one call ensures, buffer by buffer, is the step that its loop takes.
use Prim.Native.Nat.{ℕ}
use mathlib.Core.List.{List}
use mathlib.Core.Path.{◌≡◌}
use lib.ListN.{length}
use Rattle.common.specs.Answer.{left_of}
use Rattle.receiver.specs.declared.Receiver.{Receiver}
use Rattle.receiver.specs.Record as receiving
use Rattle.receiver.specs.Take.{take_answer, block_due, taken_of}
use Rattle.sender.specs.declared.Sender.{Sender}
use Rattle.sender.specs.Record as sending
use Rattle.sender.specs.Send.{new_answer, new_datagram, new_of}
use Rattle.endpoint.specs.Receive.{halves, receive_of}
use Rattle.repeating.specs.Calls.{part_at, on_part, each_time}
use Rattle.repeating.specs.Steps.{sending_of, send_step_of, taking_of, take_step_of}

pub receive_steps : (w : ℕ) (q s : Sender) (t r : Receiver) (store m bytes ends d : List ℕ) (i : ℕ) → d ≡ part_at bytes ends i → s ≡ (receive_of w w (halves q t store) d).sender
    → r ≡ (receive_of w w (halves q t store) d).receiver → m ≡ (receive_of w w (halves q t store) d).store
    → halves s r m ≡ on_part (receive_of w w) bytes ends i (halves q t store)
receive_steps w q s t r store m bytes ends d i e a b c = rw (← e) λ k. record { sender = a k; receiver = b k; store = c k }

pub send_steps : (w tick : ℕ) (q s : Sender) (store m out o bytes ends d : List ℕ) (i : ℕ) → d ≡ part_at bytes ends i
    → s ≡ (new_of w w (sending.state q store) tick d (length out)).sender → m ≡ (new_of w w (sending.state q store) tick d (length out)).store
    → o ≡ left_of (new_answer w w (sending.state q store) d (length out)) (new_datagram (sending.state q store) d) out
    → sending_of s m o ≡ on_part (send_step_of w w tick) bytes ends i (sending_of q store out)
send_steps w tick q s store m out o bytes ends d i e a b c = rw (← e) λ k. record { sender = a k; store = b k; out = c k }

pub take_steps : (w : ℕ) (q r : Receiver) (store out o : List ℕ) (i : ℕ) → r ≡ taken_of w w (receiving.state q store) (length out)
    → o ≡ left_of (take_answer w w (receiving.state q store) (length out)) (block_due w (receiving.state q store)) out
    → taking_of r o ≡ each_time (take_step_of w w store) i (taking_of q out)
take_steps w q r store out o i a b = λ k. record { receiver = a k; out = b k }
