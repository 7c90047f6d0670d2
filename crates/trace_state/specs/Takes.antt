-- What a line's step promises, in the terms of its definitions.
use Rattle.std.specs.Prelude.{ℕ, ◌+◌, ◌*◌, ◌≤◌, cond, List, ◌≡◌, length, eqb}
use Rattle.text.specs.Within.{LaidWithin}
use Rattle.trace.specs.Read.{kind_due, data_due, fresh_cursor}
use Rattle.endpoint.specs.Open.{fresh_pair}
use Rattle.trace_state.specs.declared.State.{State}
use Rattle.calling.specs.Asks.{endpoint_with}
use Rattle.trace_state.specs.Steps.{Machine, machine, step_of, step_text}

-- the machine of a state and the stores lent with it
abbrev pub machine_of : State → List ℕ → List ℕ → Machine
machine_of s store sent = machine s.cursor (endpoint_with s.sender s.receiver store sent)

-- the state before the first line
abbrev pub fresh_state : State
fresh_state =
    record {
      cursor = fresh_cursor;
      sender = (fresh_pair 32 0 0 0 0).sender;
      receiver = (fresh_pair 32 0 0 0 0).receiver;
    }

-- An event's answer has at most 30 bytes, and each of its three lines at least six with its newline: five bytes of output for three of the trace. This is what
-- the lines of the event so far have paid, in thirds of a byte of output.
unfoldable pub paid : ℕ → ℕ
paid due = cond (eqb due kind_due) 30 (cond (eqb due data_due) 60 0)

-- a line was taken: the machine after it, what was written, and how much
pub record Steps (m : Machine) (l d : List ℕ) (at : ℕ) (s : State) (store sent e : List ℕ) (r : ℕ) : Type 0 where
  pub left : machine_of s store sent ≡ step_of m l
  pub text : LaidWithin 30 (step_text m l) d at e r
  pub room : 3 * r + paid s.cursor.due ≤ 3 * at + paid m.cursor.due + 5 * (length l + 1)
