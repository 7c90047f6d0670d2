-- `laying::put_vector` meets its contract: each way out is an instance of a law of Given and Widths.
use mathlib.Core.Path.{ap}
use mathlib.Core.List.{[], ◌∷◌}
use Prim.Native.Nat.{ℕ}
use Rattle.common.specs.Laid.{laid_as, lays, done, next}
use Rattle.wire.specs.Write.{vector_bytes}
use Rattle.laying.proofs.Given.{given_room, laid_on, laid_off}
use Rattle.laying.proofs.put_vector.Goals as goal

pub returns-then-flag : goal.returns-then-flag
returns-then-flag c = laid_on _ _ c.if-flag.true
    (lays (next c.put_word-size.ensures (next (laid_as (ap (λ (n : ℕ). n ∷ []) c.size_byte.ensures) c.lay_byte-stamp.ensures) (next c.put_stamp-rest.ensures (next c.lay.ensures done)))) (given_room _ (vector_bytes c.args.vector c.args.coded.now) _ _ c.if-flag.true c.requires.coded_in_bounds))

pub returns-else-flag : goal.returns-else-flag
returns-else-flag c = laid_off _ _ _ _ c.if-flag.false
