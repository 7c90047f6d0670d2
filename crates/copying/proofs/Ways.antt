-- Copying a part out: a law for each way out of the judgement, and what an accepted copy tells.
use Rattle.std.specs.Prelude.{Ok}
use Prim.Native.Nat.{ℕ, ◌+◌, ◌-◌, ◌≤◌, ◌<◌}
use mathlib.Core.List.{List}
use mathlib.Core.Path.{◌≡◌, refl, sym, ◌∙◌, ap}
use native.Mathlib.Omega.{arith}
use lib.ListN.{length}
use lib.Dec.{ltb}
use borrow.Author.Tests.{lt-ltb, le-ltb, ltb-false}
use Rattle.common.specs.Answer.{written_of, left_of, written_wrote, left_wrote}
use Rattle.common.specs.Laid.{Laid}
use Rattle.common.specs.Order.{first}
use Rattle.common.specs.Put.{put_of}
use Rattle.wire.specs.Frame.{swapped, byte_at, dropped_by, end_of}
use Rattle.wire.specs.Layout.{part_of}
use Rattle.wire.specs.Round.Framing.{swapped_length, part_length}
use Rattle.wire.specs.Round.Tests.{all_pass, neither}
use Rattle.copying.specs.Copy.{copy_tests, copy_answer}

module _ (d : List ℕ) (from n room : ℕ) where
  pub copy_short : length d < 8 → 1 ≡ copy_answer d from n room
  unfolding copy_answer first
  copy_short h = rw (lt-ltb (length d) 8 h) refl

  pub copy_long : 1232 < length d → 1 ≡ copy_answer d from n room
  unfolding copy_answer first
  copy_long h = rw (le-ltb (length d) 8 (omega arith), lt-ltb 1232 (length d) h) refl

  -- the packet's end, as the code counts it
  module _ (prefix k : ℕ) (low : 8 ≤ length d) (high : length d ≤ 1232) (e : prefix ≡ byte_at (swapped d) 0) (g : k ≡ dropped_by prefix) where
    ends : length d - k ≡ end_of (swapped d)
    unfolding end_of
    ends = ap (λ (l : ℕ). l - k) (sym (swapped_length d)) ∙ ap (λ (l : ℕ). length (swapped d) - l) (g ∙ ap dropped_by e)

    pub copy_past : length d - k < from + n → 3 ≡ copy_answer d from n room
    unfolding copy_answer first
    copy_past h =
        let q : end_of (swapped d) < from + n = omega (arith, ends) in
        rw (le-ltb (length d) 8 low, le-ltb 1232 (length d) high, lt-ltb (end_of (swapped d)) (from + n) q) refl

    pub copy_narrow : from + n ≤ length d - k → room < n → 14 ≡ copy_answer d from n room
    unfolding copy_answer first
    copy_narrow h r =
        let q : from + n ≤ end_of (swapped d) = omega (arith, ends) in
        rw (le-ltb (length d) 8 low, le-ltb 1232 (length d) high, le-ltb (end_of (swapped d)) (from + n) q, lt-ltb room n r) refl

    pub copy_accepted : from + n ≤ length d - k → n ≤ room → 0 ≡ copy_answer d from n room
    unfolding copy_answer first
    copy_accepted h r =
        let q : from + n ≤ end_of (swapped d) = omega (arith, ends) in
        rw (le-ltb (length d) 8 low, le-ltb 1232 (length d) high, le-ltb (end_of (swapped d)) (from + n) q, le-ltb room n r) refl

-- An accepted part lies in the datagram, and fits.
pub record Fits (d : List ℕ) (from n room : ℕ) : Type 0 where
  pub long : 8 ≤ length d
  pub inside : from + n ≤ length d
  pub fits : n ≤ room

pub accepted_fits : (d : List ℕ) (from n room : ℕ) → 0 ≡ copy_answer d from n room → Fits d from n room
unfolding copy_answer end_of
accepted_fits d from n room e =
    let tests = all_pass (copy_tests d from n room) (omega arith) e in
    let lengths = neither (ltb (length d) 8) (ltb 1232 (length d)) tests.0 in
    let past : from + n ≤ end_of (swapped d) = ltb-false (end_of (swapped d)) (from + n) tests.1.0 in
    record {
      long = ltb-false (length d) 8 lengths.0;
      inside = omega (arith, past, swapped_length d);
      fits = ltb-false room n tests.1.1.0;
    }

-- What the call then answers, and leaves.
pub copy_done : (d out left : List ℕ) (from n : ℕ) → 0 ≡ copy_answer d from n (length out) → left ≡ put_of out 0 (part_of d from n)
    → (Ok n ≡ written_of (copy_answer d from n (length out)) (part_of d from n)) × (left ≡ left_of (copy_answer d from n (length out)) (part_of d from n) out)
copy_done d out left from n accepted x =
    let laid : Laid out 0 (part_of d from n) left n = record { bytes = x; next = omega (arith, part_length d from n (accepted_fits d from n (length out) accepted).inside) } in
    (written_wrote _ _ _ _ _ accepted laid, left_wrote _ _ _ _ _ accepted laid)
