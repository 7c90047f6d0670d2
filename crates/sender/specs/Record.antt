-- The sender's record, over a window of w: "32 places for data numbers from low up to next (pending, received or lost; channel number; tick sent) and 32 for
-- blocks from channel low up to channel next (in flight, waiting or acknowledged; length)." And the peer's LogWindowSize (document 02, W5), and in each block's place
-- "how often it was sent, 1 for the first" (W11).
use Rattle.std.specs.Prelude.{ℕ, Bool, cond, true, List, eqb}
use Rattle.window.specs.Store.{stored_at}
use Rattle.window.specs.Window.{Win, here}
use Rattle.sender.specs.declared.NumberPlace.{NumberPlace}
use Rattle.sender.specs.declared.BlockPlace.{BlockPlace}
use Rattle.sender.specs.declared.Sender.{Sender}

-- "a loss timeout of 300 to 60,000 ms"
abbrev pub shortest_timeout : ℕ
shortest_timeout = 300

abbrev pub longest_timeout : ℕ
longest_timeout = 60000

-- "Before any packet the limit is 32" (document 02, W5): 2 to this power
abbrev pub opening_log_window : ℕ
opening_log_window = 5

-- "over 1,223 bytes given to the new-block call": the longest block that is sent
abbrev pub longest_sent : ℕ
longest_sent = 1223

-- document 02, W11: "any but 1 to 6 is inconsistent"
abbrev pub most_sends : ℕ
most_sends = 6

-- a record and the store that is lent with it
pub record State : Type 0 where
  pub sender : Sender
  pub store : List ℕ

abbrev pub state : Sender → List ℕ → State
state s b = record { sender = s; store = b }

-- the states of a number's place
abbrev pub pending : ℕ
pending = 1

abbrev pub received : ℕ
received = 2

abbrev pub lost : ℕ
lost = 3

-- the states of a block's place
abbrev pub in_flight : ℕ
in_flight = 1

abbrev pub waiting : ℕ
waiting = 2

abbrev pub acknowledged : ℕ
acknowledged = 3

abbrev pub is_pending : NumberPlace → Bool
is_pending p = eqb p.state pending

abbrev pub is_received : NumberPlace → Bool
is_received p = eqb p.state received

abbrev pub is_lost : NumberPlace → Bool
is_lost p = eqb p.state lost

abbrev pub is_in_flight : BlockPlace → Bool
is_in_flight b = eqb b.state in_flight

abbrev pub is_waiting : BlockPlace → Bool
is_waiting b = eqb b.state waiting

abbrev pub is_acknowledged : BlockPlace → Bool
is_acknowledged b = eqb b.state acknowledged

-- "a block that stands at 6"
abbrev pub is_spent : BlockPlace → Bool
is_spent b = eqb b.sends most_sends

-- the zero places
abbrev pub no_number : NumberPlace
no_number = record { state = 0; channel = record { 0 = 0 }; tick = 0 }

abbrev pub no_block : BlockPlace
no_block = record { state = 0; sends = 0; length = 0 }

-- "Both lows stand at the first pending number and first unacknowledged block, or at next": what low and channel low pass
abbrev pub number_passes : NumberPlace → Bool
number_passes p = cond (is_received p) true (is_lost p)

abbrev pub block_passes : BlockPlace → Bool
block_passes b = is_acknowledged b

-- the record with another LogWindowSize: document 02, W5, "The sender now remembers the field of the last accepted data-type packet"
abbrev pub remembering : ℕ → Sender → Sender
remembering logwindow s =
    record {
      firstdata = s.firstdata;
      firstchannel = s.firstchannel;
      timeout = s.timeout;
      logwindow = logwindow;
      low = s.low;
      next = s.next;
      channellow = s.channellow;
      channelnext = s.channelnext;
      numbers = s.numbers;
      blocks = s.blocks;
    }

-- the record's two windows
abbrev pub numbers_of : Sender → Win NumberPlace
numbers_of s = record { base = s.low.0; places = s.numbers }

abbrev pub blocks_of : Sender → Win BlockPlace
blocks_of s = record { base = s.channellow.0; places = s.blocks }

abbrev pub number_at : ℕ → Sender → ℕ → NumberPlace
number_at w s n = here no_number w (numbers_of s) n

abbrev pub block_at : ℕ → Sender → ℕ → BlockPlace
block_at w s c = here no_block w (blocks_of s) c

-- the bytes of block c, as its place has them, in "a lent store of the sender's own, laid out as the receiver's"
unfoldable pub contents : ℕ → State → ℕ → List ℕ
contents w s c = stored_at w s.store c (block_at w s.sender c).length
