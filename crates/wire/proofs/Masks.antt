-- Masks and shifts, in the arithmetic that the contracts speak.
use Prim.Native.Nat.{ℕ, ◌+◌, ◌-◌, ◌*◌, ◌/◌, ◌%◌}
use mathlib.Core.Bool.{not}
use mathlib.Core.Path.{◌≡◌, refl}
use native.Mathlib.Omega.{arith}
use lib.Dec.{eqb}
use lib.Bits.{bit_and, and_mask, and_high}
use borrow.Author.Tests.{eq-eqb, ne_eqb}
use Rattle.wire.specs.Frame.{short_in, dropped_by}
use Rattle.wire.specs.Flags.{six_of, outside}

-- the six flags, each by its mask
pub record Masked (x : ℕ) : Type 0 where
  pub ack : bit_and x 1 ≡ x % 2
  pub content : bit_and x 4 ≡ 4 * (x / 4 % 2)
  pub vector : bit_and x 8 ≡ 8 * (x / 8 % 2)
  pub aoa : bit_and x 16 ≡ 16 * (x / 16 % 2)
  pub overhead : bit_and x 64 ≡ 64 * (x / 64 % 2)
  pub delay : bit_and x 256 ≡ 256 * (x / 256 % 2)

pub masked : (x : ℕ) → Masked x
masked x =
    record {
      ack = and_mask x 1;
      content = omega (arith, and_high x 1 2);
      vector = omega (arith, and_high x 1 3);
      aoa = omega (arith, and_high x 1 4);
      overhead = omega (arith, and_high x 1 6);
      delay = omega (arith, and_high x 1 8);
    }

pub masked_others : (x : ℕ)
    → not (eqb x (bit_and x 1 + bit_and x 4 + bit_and x 8 + bit_and x 16 + bit_and x 64 + bit_and x 256)) ≡ outside x
unfolding outside six_of
masked_others x = let m = masked x in rw (m.ack, m.content, m.vector, m.aoa, m.overhead, m.delay) refl

-- the short length, a law for each way out
pub dropped_none : (prefix : ℕ) → short_in prefix ≡ 0 → 0 ≡ dropped_by prefix
unfolding dropped_by
dropped_none prefix e = rw (eq-eqb (short_in prefix) 0 e) refl

pub dropped_some : (prefix : ℕ) → (short_in prefix ≡ 0 → ⊥) → 7 - short_in prefix ≡ dropped_by prefix
unfolding dropped_by
dropped_some prefix e = rw (ne_eqb (short_in prefix) 0 e) refl
