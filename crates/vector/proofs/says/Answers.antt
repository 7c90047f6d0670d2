-- `vector::says` meets its contract. Each mask is a remainder, and the top bit decides between the two ways of the definition.
-- Assumes nothing.
use Prim.Native.Nat.{ℕ, ◌/◌}
use mathlib.Core.Path.{◌≡◌, sym, ◌∙◌}
use lib.Bits.{bit_and, and_mask}
use lib.Dec.{eqb}
use Rattle.vector.specs.declared.Saying.TheVariants.{Map, Run}
use Rattle.vector.specs.Says.{says_of}
use Rattle.vector.specs.Laws.{says_run, says_map}
use Rattle.vector.proofs.says.Goals as goal

run_by_masks : (b : ℕ) → bit_and (b / 128) 1 ≡ 1 → Run (eqb (bit_and (b / 64) 1) 1) (bit_and b 63) ≡ says_of b
run_by_masks b t = rw (and_mask (b / 64) 1, and_mask b 6) (says_run b (sym (and_mask (b / 128) 1) ∙ t))

map_by_mask : (b : ℕ) → (bit_and (b / 128) 1 ≡ 1 → ⊥) → Map (bit_and b 127) ≡ says_of b
map_by_mask b t = rw (and_mask b 7) (says_map b (λ e. t (and_mask (b / 128) 1 ∙ e)))

pub returns-then-b-eq1 : goal.returns-then-b-eq1
returns-then-b-eq1 c = run_by_masks c.args.b c.if-b-eq1.true

pub returns-else-b-eq1 : goal.returns-else-b-eq1
returns-else-b-eq1 c = map_by_mask c.args.b c.if-b-eq1.false
