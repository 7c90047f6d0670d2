-- What a consistent record passes, part by part, and that this is all.
use Prim.Native.Nat.{ℕ, ◌+◌, ◌≤◌}
use mathlib.Core.Bool.{true, false, not}
use mathlib.Core.Path.{◌≡◌, sym, ap}
use lib.ListN.{length, get_or}
use lib.Dec.{leb}
use borrow.Author.Tests.{eq-eqb, lt-leb, leb-true, not-true}
use Rattle.common.specs.Every.{all_below}
use Rattle.common.specs.EveryLaws.{all_every, all_from, imply, every_at}
use Rattle.common.specs.Facts.{clash}
use Rattle.numbers.specs.Full.{past_highest}
use Rattle.sender.specs.declared.Sender.{Sender}
use Rattle.sender.specs.Record.{number_passes, is_acknowledged, number_at, block_at}
use Rattle.sender.specs.Consistent.{range_tests, range_fits, timeout_fits, number_ok, block_ok, spare_number, spare_block, consistency_tests, consistent_of}

pub record Passes (w : ℕ) (s : Sender) : Type 0 where
  pub range : range_fits w s.firstdata.0 s.low.0 s.next.0 ≡ true
  pub channels : range_fits w s.firstchannel.0 s.channellow.0 s.channelnext.0 ≡ true
  pub time : timeout_fits s.timeout ≡ true
  pub stands : number_passes (number_at w s s.low.0) ≡ false
  pub block_stands : is_acknowledged (block_at w s s.channellow.0) ≡ false
  pub numbers : all_below (number_ok w s) w ≡ true
  pub blocks : all_below (block_ok w s) w ≡ true

pub consistent_passes : (w : ℕ) (s : Sender) → consistent_of w w s ≡ true → Passes w s
unfolding consistent_of
consistent_passes w s h =
    let t : (i : ℕ) → get_or (consistency_tests w w s) i true ≡ true = every_at (consistency_tests w w s) h in
    record {
      range = t 2;
      channels = t 3;
      time = t 4;
      stands = not-true _ (t 5);
      block_stands = not-true _ (t 6);
      numbers = t 7;
      blocks = t 8;
    }

-- no place lies past the window
spare_numbers_lem : (w : ℕ) (s : Sender) → all_below (spare_number w s) w ≡ true
unfolding spare_number
spare_numbers_lem w s = all_from (spare_number w s) w (λ i l. imply _ _ (λ t. clash (leb w i) t (lt-leb w i l)))

spare_blocks_lem : (w : ℕ) (s : Sender) → all_below (spare_block w s) w ≡ true
unfolding spare_block
spare_blocks_lem w s = all_from (spare_block w s) w (λ i l. imply _ _ (λ t. clash (leb w i) t (lt-leb w i l)))

pub passes_consistent : (w : ℕ) (s : Sender) → length s.numbers ≡ w → length s.blocks ≡ w → Passes w s → true ≡ consistent_of w w s
unfolding consistent_of
passes_consistent w s n b h =
    sym (all_every (consistency_tests w w s)
    (eq-eqb _ _ n, (eq-eqb _ _ b, (h.range, (h.channels, (h.time, (ap not h.stands, (ap not h.block_stands, (h.numbers, (h.blocks, (spare_numbers_lem w s, (spare_blocks_lem w s, tt))))))))))))

-- the bounds that a range's test tells
pub record Range (w first low next : ℕ) : Type 0 where
  pub from : first ≤ low
  pub forth : low ≤ next
  pub next_fits : next ≤ past_highest
  pub room : next ≤ low + w

pub range_facts : (w first low next : ℕ) → range_fits w first low next ≡ true → Range w first low next
unfolding range_fits
range_facts w first low next h =
    let r : (i : ℕ) → get_or (range_tests w first low next) i true ≡ true = every_at (range_tests w first low next) h in
    record { from = leb-true _ _ (r 1); forth = leb-true _ _ (r 2); next_fits = leb-true _ _ (r 3); room = leb-true _ _ (r 4) }

-- what is tested before any place
pub record Begun (w : ℕ) (s : Sender) : Type 0 where
  pub range : range_fits w s.firstdata.0 s.low.0 s.next.0 ≡ true
  pub channels : range_fits w s.firstchannel.0 s.channellow.0 s.channelnext.0 ≡ true
  pub time : timeout_fits s.timeout ≡ true

pub data_range : (w : ℕ) (s : Sender) → Begun w s → Range w s.firstdata.0 s.low.0 s.next.0
data_range w s h = range_facts _ _ _ _ h.range
