-- Opening: "Opening gives the first of each, 0 to 65,535, for both directions alike, and a loss timeout of 300 to 60,000 ms". "Opening: 15."
use Rattle.std.specs.Prelude.{ℕ, cond, List, [], ◌∷◌, eqb, ltb}
use Rattle.common.specs.Answer.{answered_of}
use Rattle.common.specs.Order.{Test, test, first}
use Rattle.numbers.specs.Full.{highest_first}
use Rattle.receiver.specs.declared.Receiver.{Receiver}
use Rattle.receiver.specs.Fresh as receiving
use Rattle.sender.specs.declared.Sender.{Sender}
use Rattle.sender.specs.Record.{shortest_timeout, longest_timeout, remembering}
use Rattle.sender.specs.Fresh as sending
use Rattle.endpoint.specs.declared.Opened.{Opened}

abbrev pub open_tests : ℕ → ℕ → ℕ → List Test
open_tests firstdata firstchannel timeout =
    test (ltb highest_first firstdata) 15
    ∷ test (ltb highest_first firstchannel) 15
    ∷ test (ltb timeout shortest_timeout) 15
    ∷ test (ltb longest_timeout timeout) 15
    ∷ []

unfoldable pub open_answer : ℕ → ℕ → ℕ → ℕ
open_answer firstdata firstchannel timeout =
    first (open_tests firstdata firstchannel timeout)

-- what opening gives, its answer by the paper's number
pub record Opens : Type 0 where
  pub answer : ℕ
  pub sender : Sender
  pub receiver : Receiver

-- and as the call tells it
abbrev pub told_of : Opens → Opened
told_of o = record { answer = answered_of o.answer; sender = o.sender; receiver = o.receiver }

-- two fresh halves
abbrev pub fresh_pair : ℕ → ℕ → ℕ → ℕ → ℕ → Opens
fresh_pair cap answer firstdata firstchannel timeout =
    record {
      answer = answer;
      sender = sending.fresh_of cap firstdata firstchannel timeout;
      receiver = receiving.fresh_of cap firstdata firstchannel;
    }

-- two halves of zeros
abbrev pub zero_pair : ℕ → ℕ → Opens
zero_pair cap answer =
    record {
      answer = answer;
      sender = remembering 0 (sending.fresh_of cap 0 0 0);
      receiver = receiving.fresh_of cap 0 0;
    }

-- the whole call; where it is refused, nothing is opened: every field is zero
unfoldable pub opened_of : ℕ → ℕ → ℕ → ℕ → Opens
opened_of cap firstdata firstchannel timeout =
    cond (eqb (open_answer firstdata firstchannel timeout) 0) (fresh_pair cap 0 firstdata firstchannel timeout)
    (zero_pair cap (open_answer firstdata firstchannel timeout))
