-- What turning asks of a record: its range of data numbers is in order, and no number from next on is pending. A consistent record is such.
use Rattle.std.specs.Prelude.{ℕ, ◌+◌, ◌≤◌, ◌<◌, true, false, ◌≡◌}
use Rattle.std.proofs.Common.{ap, arith}
use Rattle.numbers.specs.Full.{past_highest}
use Rattle.sender.specs.declared.Sender.{Sender}
use Rattle.sender.specs.Record.{is_pending, number_at}
use Rattle.sender.specs.Consistent.{consistent_of}
use Rattle.sender.specs.Facts.{consistent_facts}

pub record Turnable (w : ℕ) (s : Sender) : Type 0 where
  pub low : s.low.0 ≤ s.next.0
  pub next : s.next.0 ≤ past_highest
  pub room : s.next.0 ≤ s.low.0 + w
  pub channellow : s.channellow.0 ≤ past_highest
  pub idle : (n : ℕ) → s.next.0 ≤ n → n < s.low.0 + w → is_pending (number_at w s n) ≡ false

pub turnable : (w cap : ℕ) (s : Sender) → 0 < w → w ≤ cap → consistent_of w cap s ≡ true → Turnable w s
turnable w cap s lw uw h =
    let f = consistent_facts w cap s lw uw h in
    let b = f.bounds in
    record {
      low = b.next;
      next = b.full;
      room = b.room;
      channellow = omega (arith, b.channelnext, b.channelfull);
      idle = λ n l u. ap is_pending (f.unused n l u);
    }
