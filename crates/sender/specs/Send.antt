-- New block and resend. "Each data packet we write has AOA (low before this send) and DATA, nothing else."
use Rattle.std.specs.Prelude.{ℕ, zero, suc, ◌+◌, ◌-◌, ◌%◌, ◌^◌, min, Bool, true, false, cond, not, List, [], ◌∷◌, length, set, eqb, leb, ltb}
use Rattle.std.proofs.Math.Option.{Option, none, some}
use Rattle.common.specs.Put.{put_of}
use Rattle.common.specs.Order.{Test, test, first}
use Rattle.numbers.specs.Full.{highest}
use Rattle.window.specs.Store.{store_place}
use Rattle.wire.specs.declared.Values.{Values}
use Rattle.wire.specs.Layout.{log_window, no_ack, no_delay, no_vector}
use Rattle.wire.specs.Write.{datagram_of}
use Rattle.sender.specs.declared.Sender.{Sender}
use Rattle.sender.specs.Record.{longest_sent, State, pending, in_flight, is_waiting, is_spent, block_at, contents}
use Rattle.sender.specs.Consistent.{sound_of}

-- the values of a data packet with this low and this data number that carries block c; "The endpoint writes LogWindowSize 5"
abbrev pub data_values : ℕ → ℕ → ℕ → Values
data_values low next c =
    record {
      flags = 0x014;
      logwindow = log_window;
      ack = no_ack;
      overhead = 0;
      delay = no_delay;
      aoa = low % 65536;
      number = next % 65536;
      vector = no_vector;
      channel = c % 65536;
    }

unfoldable pub data_bytes : ℕ → ℕ → ℕ → List ℕ → List ℕ
data_bytes low next c block = datagram_of (data_values low next c) [] [] block

abbrev pub data_datagram : Sender → ℕ → List ℕ → List ℕ
data_datagram s c block = data_bytes s.low.0 s.next.0 c block

-- the next data number carries block c, of so many bytes, from this tick on: pending, and the block in flight, sent so many times with this one
abbrev pub sent_of : ℕ → Sender → ℕ → ℕ → ℕ → ℕ → ℕ → Sender
sent_of w s tick c length sends channelnext =
    record {
      firstdata = s.firstdata;
      firstchannel = s.firstchannel;
      timeout = s.timeout;
      logwindow = s.logwindow;
      low = s.low;
      next = record { 0 = s.next.0 + 1 };
      channellow = s.channellow;
      channelnext = record { 0 = channelnext };
      numbers = set s.numbers (s.next.0 % w) (record { state = pending; channel = record { 0 = c }; tick = tick });
      blocks = set s.blocks (c % w) (record { state = in_flight; sends = sends; length = length });
    }

-- document 02, W5: "the smaller of 32 and 2 to that power", for the LogWindowSize that the sender remembers
unfoldable pub limit_of : ℕ → ℕ → ℕ
limit_of w logwindow = min w (2 ^ logwindow)

-- "if next minus low is at least" that limit; it is at most w, so a range that already has w numbers is among these (full-is-full, in SendReady)
unfoldable pub at_limit_of : ℕ → ℕ → ℕ → ℕ → Bool
at_limit_of w low next logwindow = leb (limit_of w logwindow) (next - low)

abbrev pub numbers_full : ℕ → Sender → Bool
numbers_full w s = at_limit_of w s.low.0 s.next.0 s.logwindow

-- "New block: pending and in flight. .. 12 exactly if next or channel next has passed the full range." 9 exactly if the data numbers are full, or, as document 01 has it,
-- the blocks' range "already has 32".
-- "New block: 13, 10, 12, 9, 14"; 10 is "over 1,223 bytes given to the new-block call"
abbrev pub new_tests : ℕ → ℕ → State → List ℕ → ℕ → List Test
new_tests w cap s block room =
    test (not (sound_of w cap s.sender (length s.store))) 13
    ∷ test (ltb longest_sent (length block)) 10
    ∷ test (cond (ltb highest s.sender.next.0) true (ltb highest s.sender.channelnext.0)) 12
    ∷ test (cond (numbers_full w s.sender) true (leb (s.sender.channellow.0 + w) s.sender.channelnext.0)) 9
    ∷ test (ltb room (length (data_datagram s.sender s.sender.channelnext.0 block))) 14
    ∷ []

unfoldable pub new_answer : ℕ → ℕ → State → List ℕ → ℕ → ℕ
new_answer w cap s block room = first (new_tests w cap s block room)

unfoldable pub new_datagram : State → List ℕ → List ℕ
new_datagram s block = data_datagram s.sender s.sender.channelnext.0 block

-- the record and the store after the call; "Sent blocks stand in a lent store of the sender's own"
unfoldable pub new_of : ℕ → ℕ → State → ℕ → List ℕ → ℕ → State
new_of w cap s tick block room =
    cond (eqb (new_answer w cap s block room) 0)
    (record {
      sender = sent_of w s.sender tick s.sender.channelnext.0 (length block) 1 (s.sender.channelnext.0 + 1);
      store = put_of s.store (store_place w s.sender.channelnext.0) block;
    })
    s

-- "the waiting block of lowest channel number", among k from c on
unfoldable pub waiting_from : ℕ → Sender → ℕ → ℕ → Option ℕ
waiting_from w s c zero = none
waiting_from w s c (suc k) = cond (is_waiting (block_at w s c)) (some c) (waiting_from w s (c + 1) k)

unfoldable pub lowest_waiting : ℕ → Sender → Option ℕ
lowest_waiting w s = waiting_from w s s.channellow.0 (s.channelnext.0 - s.channellow.0)

abbrev pub is_none : Option ℕ → Bool
is_none none = true
is_none (some c) = false

-- document 02, W11: "22 for the block at its limit"; it is the waiting one of lowest channel number, and no other is looked at
abbrev pub is_spent_at : ℕ → Sender → Option ℕ → Bool
is_spent_at w s none = false
is_spent_at w s (some c) = is_spent (block_at w s c)

unfoldable pub lowest_spent : ℕ → Sender → Bool
lowest_spent w s = is_spent_at w s (lowest_waiting w s)

-- the datagram of a resend: the block from the store, under a new data number
abbrev pub resend_datagram_for : ℕ → State → Option ℕ → List ℕ
resend_datagram_for w s none = []
resend_datagram_for w s (some c) = data_datagram s.sender c (contents w s c)

unfoldable pub resend_datagram : ℕ → State → List ℕ
resend_datagram w s = resend_datagram_for w s (lowest_waiting w s.sender)

-- "Resend: .. 11 if none waits; 9 and 12 look at data numbers only." "Resend: 13, 11, 12, 9, 14", and 22 "after 11 and before 12" (document 02, W11)
abbrev pub resend_tests : ℕ → ℕ → State → ℕ → List Test
resend_tests w cap s room =
    test (not (sound_of w cap s.sender (length s.store))) 13
    ∷ test (is_none (lowest_waiting w s.sender)) 11
    ∷ test (lowest_spent w s.sender) 22
    ∷ test (ltb highest s.sender.next.0) 12
    ∷ test (numbers_full w s.sender) 9
    ∷ test (ltb room (length (resend_datagram w s))) 14
    ∷ []

unfoldable pub resend_answer : ℕ → ℕ → State → ℕ → ℕ
resend_answer w cap s room = first (resend_tests w cap s room)

abbrev pub resent_for : ℕ → Sender → ℕ → Option ℕ → Sender
resent_for w s tick none = s
resent_for w s tick (some c) = sent_of w s tick c (block_at w s c).length ((block_at w s c).sends + 1) s.channelnext.0

unfoldable pub resend_of : ℕ → ℕ → State → ℕ → ℕ → Sender
resend_of w cap s tick room =
    cond (eqb (resend_answer w cap s room) 0) (resent_for w s.sender tick (lowest_waiting w s.sender)) s.sender
