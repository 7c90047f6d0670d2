-- Take: "copies out the block that is due and frees its place, changing no byte of the store; 11 exactly if it is not held."
use Rattle.std.specs.Prelude.{ℕ, ◌+◌, cond, not, List, [], ◌∷◌, length, eqb, ltb}
use Rattle.common.specs.Order.{Test, test, first}
use Rattle.window.specs.Window.{passed}
use Rattle.receiver.specs.declared.Receiver.{Receiver}
use Rattle.receiver.specs.Record.{State, is_held, empty, holds_of, hold_at, contents}
use Rattle.receiver.specs.Consistent.{sound_of}

-- "Take .. 13, 11, 14", into room for so many bytes
abbrev pub take_tests : ℕ → ℕ → State → ℕ → List Test
take_tests w cap s room =
    test (not (sound_of w cap s.receiver (length s.store))) 13
    ∷ test (not (is_held (hold_at w s.receiver s.receiver.due.0))) 11
    ∷ test (ltb room (hold_at w s.receiver s.receiver.due.0).length) 14
    ∷ []

unfoldable pub take_answer : ℕ → ℕ → State → ℕ → ℕ
take_answer w cap s room = first (take_tests w cap s room)

-- the block due
abbrev pub block_due : ℕ → State → List ℕ
block_due w s = contents w s s.receiver.due.0

-- its place freed
abbrev pub receiver_taken : ℕ → Receiver → Receiver
receiver_taken w r =
    record {
      firstdata = r.firstdata;
      firstchannel = r.firstchannel;
      base = r.base;
      end = r.end;
      due = record { 0 = r.due.0 + 1 };
      marks = r.marks;
      holds = (passed empty w (holds_of r)).places;
    }

unfoldable pub taken_of : ℕ → ℕ → State → ℕ → Receiver
taken_of w cap s room = cond (eqb (take_answer w cap s room) 0) (receiver_taken w s.receiver) s.receiver
