-- Demand 1, the receiver's half: from any consistent record and a store of the right size, reached by a run or not, each call leaves a
-- consistent record and a store of that size. A refused call leaves both as they were, so nothing is asked of the answer.
use Rattle.std.specs.Prelude.{ℕ, ◌≤◌, ◌<◌, true, List, ◌≡◌, length}
use Rattle.receiver.specs.Record.{State}
use Rattle.receiver.specs.Consistent.{sound_of}
use Rattle.receiver.specs.Take.{taken_of}
use Rattle.receiver.specs.Receive.{receive_of}
use Rattle.receiver.specs.Keeping.Calls.{take_sound, receive_sound}

-- A take, with any room; it changes no byte of the store.
pub take_keeps : (w cap : ℕ) (s : State) (room : ℕ) → 0 < w → w ≤ cap
    → sound_of w cap s.receiver (length s.store) ≡ true
    → sound_of w cap (taken_of w cap s room) (length s.store) ≡ true
take_keeps w cap s room pos fits h = take_sound w cap s room pos fits h

-- Receiving any datagram.
pub receive_keeps : (w cap : ℕ) (s : State) (d : List ℕ) → 0 < w → w ≤ cap
    → sound_of w cap s.receiver (length s.store) ≡ true
    → sound_of w cap (receive_of w cap s d).receiver (length (receive_of w cap s d).store) ≡ true
receive_keeps w cap s d pos fits h = receive_sound w cap s d pos fits h
