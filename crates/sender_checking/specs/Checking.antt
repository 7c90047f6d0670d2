-- What the check of a record asks of the places in their own order, and what a walk over the numbers in range tells.
use Rattle.std.specs.Prelude.{ℕ, ◌+◌, ◌-◌, ◌%◌, ◌≤◌, ◌<◌, Bool, true, false, List, ◌≡◌, leb, length, get_or}
use Rattle.common.specs.Every.{all_below, count_below, implies}
use Rattle.common.specs.CountLaws.{one}
use Rattle.numbers.specs.Full.{past_highest}
use Rattle.window.specs.Places.{past_of}
use Rattle.window.specs.EachPlace.{count_of}
use Rattle.sender.specs.declared.NumberPlace.{NumberPlace}
use Rattle.sender.specs.declared.BlockPlace.{BlockPlace}
use Rattle.sender.specs.declared.Sender.{Sender}
use Rattle.sender.specs.Record.{no_number, no_block}
use Rattle.sender.specs.Consistent.{range_fits, zero_number, block_fits, carries, number_ok, consistent_of}

-- the number at place j is unused where it lies from next on
unfoldable pub number_placed : ℕ → List NumberPlace → ℕ → ℕ → ℕ → Bool
number_placed w numbers low next j = implies (leb (count_of w low next) (past_of w low j)) (zero_number (get_or numbers j no_number))

-- the block at place j fits, where the marks say whether exactly one pending number carries it
unfoldable pub block_placed : ℕ → List BlockPlace → List Bool → ℕ → ℕ → ℕ → Bool
block_placed w blocks marks low next j = block_fits (get_or blocks j no_block) (get_or marks j false) (past_of w low j) (count_of w low next)

-- both ranges are in order, the data numbers' as far as the walk needs it
pub record Ranges (w low next firstchannel channellow channelnext : ℕ) : Type 0 where
  pub forth : low ≤ next
  pub next_fits : next ≤ past_highest
  pub room : next ≤ low + w
  pub channels : range_fits w firstchannel channellow channelnext ≡ true

-- the record of these parts
abbrev pub sender_of : ℕ → ℕ → ℕ → List NumberPlace → List BlockPlace → ℕ → ℕ → ℕ → ℕ → ℕ → Sender
sender_of firstdata timeout logwindow numbers blocks low next firstchannel channellow channelnext =
    record {
      firstdata = record { 0 = firstdata };
      firstchannel = record { 0 = firstchannel };
      timeout = timeout;
      logwindow = logwindow;
      low = record { 0 = low };
      next = record { 0 = next };
      channellow = record { 0 = channellow };
      channelnext = record { 0 = channelnext };
      numbers = numbers;
      blocks = blocks;
    }

-- After i numbers, a block's place is marked once for each pending number that carries it.
pub record Marked (w : ℕ) (s : Sender) (marks : List Bool) (i : ℕ) : Type 0 where
  pub size : length marks ≡ w
  pub counts : (c : ℕ) → s.channellow.0 ≤ c → c < s.channellow.0 + w → one (get_or marks (c % w) false) ≡ count_below (carries w s c) i

-- A walk over the numbers in range tells that they fit, and their marks; or that the record is not consistent.
pub record Walked (w : ℕ) (s : Sender) (fits : Bool) (marks : List Bool) : Type 0 where
  pub stops : fits ≡ false → false ≡ consistent_of w w s
  pub numbers_sized : fits ≡ true → length s.numbers ≡ w
  pub blocks_sized : fits ≡ true → length s.blocks ≡ w
  pub numbers : fits ≡ true → all_below (number_ok w s) (s.next.0 - s.low.0) ≡ true
  pub marked : fits ≡ true → Marked w s marks (s.next.0 - s.low.0)

-- the same of the record's parts, whatever the first data number, the timeout and the LogWindowSize are
abbrev pub WalkedParts : ℕ → List NumberPlace → List BlockPlace → ℕ → ℕ → ℕ → ℕ → ℕ → Bool → List Bool → Type 0
WalkedParts w numbers blocks low next firstchannel channellow channelnext fits marks =
    (firstdata timeout logwindow : ℕ) → Walked w (sender_of firstdata timeout logwindow numbers blocks low next firstchannel channellow channelnext) fits marks
