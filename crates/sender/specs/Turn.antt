-- Some pending numbers turn, and their blocks with them; then both lows move on. Acknowledging turns numbers to received and blocks to acknowledged;
-- sweeping turns numbers to lost and blocks to waiting. "A place keeps all but its state until its low passes it."
use Rattle.std.specs.Prelude.{ℕ, zero, suc, ◌+◌, ◌%◌, Bool, false, cond, set}
use Rattle.window.specs.Window.{Win, slid}
use Rattle.sender.specs.declared.NumberPlace.{NumberPlace}
use Rattle.sender.specs.declared.BlockPlace.{BlockPlace}
use Rattle.sender.specs.declared.Sender.{Sender}
use Rattle.sender.specs.Record.{is_pending, number_passes, block_passes, no_number, no_block, numbers_of, blocks_of, number_at, block_at}

-- a number's state and its block's
pub record Turn : Type 0 where
  pub number : ℕ
  pub block : ℕ

abbrev pub in_state : NumberPlace → ℕ → NumberPlace
in_state p k = record { state = k; channel = p.channel; tick = p.tick }

abbrev pub block_in_state : BlockPlace → ℕ → BlockPlace
block_in_state b k = record { state = k; sends = b.sends; length = b.length }

-- number n turns, and its block
abbrev pub turned_at : ℕ → Turn → Sender → ℕ → Sender
turned_at w t s n =
    record {
      firstdata = s.firstdata;
      firstchannel = s.firstchannel;
      timeout = s.timeout;
      logwindow = s.logwindow;
      low = s.low;
      next = s.next;
      channellow = s.channellow;
      channelnext = s.channelnext;
      numbers = set s.numbers (n % w) (in_state (number_at w s n) t.number);
      blocks = set s.blocks ((number_at w s n).channel.0 % w) (block_in_state (block_at w s (number_at w s n).channel.0) t.block);
    }

-- number n turns if it is pending and chosen
unfoldable pub turn_one : ℕ → Turn → (ℕ → Bool) → Sender → ℕ → Sender
turn_one w t chosen s n = cond (cond (is_pending (number_at w s n)) (chosen n) false) (turned_at w t s n) s

-- the first i numbers from low on
unfoldable pub turn_up_to : ℕ → Turn → (ℕ → Bool) → Sender → ℕ → Sender
turn_up_to w t chosen s zero = s
turn_up_to w t chosen s (suc i) = turn_one w t chosen (turn_up_to w t chosen s i) (s.low.0 + i)

-- the record with other windows
abbrev pub with_numbers : Sender → Win NumberPlace → Sender
with_numbers s m =
    record {
      firstdata = s.firstdata;
      firstchannel = s.firstchannel;
      timeout = s.timeout;
      logwindow = s.logwindow;
      low = record { 0 = m.base };
      next = s.next;
      channellow = s.channellow;
      channelnext = s.channelnext;
      numbers = m.places;
      blocks = s.blocks;
    }

abbrev pub with_blocks : Sender → Win BlockPlace → Sender
with_blocks s m =
    record {
      firstdata = s.firstdata;
      firstchannel = s.firstchannel;
      timeout = s.timeout;
      logwindow = s.logwindow;
      low = s.low;
      next = s.next;
      channellow = record { 0 = m.base };
      channelnext = s.channelnext;
      numbers = s.numbers;
      blocks = m.places;
    }

-- "Both lows stand at the first pending number and first unacknowledged block, or at next"
unfoldable pub numbers_moved : ℕ → ℕ → Sender → Sender
numbers_moved w k s = with_numbers s (slid no_number w number_passes k (numbers_of s))

unfoldable pub blocks_moved : ℕ → ℕ → Sender → Sender
blocks_moved w k s = with_blocks s (slid no_block w block_passes k (blocks_of s))

unfoldable pub turned_of : ℕ → Turn → (ℕ → Bool) → Sender → Sender
turned_of w t chosen s = blocks_moved w w (numbers_moved w w (turn_up_to w t chosen s w))
