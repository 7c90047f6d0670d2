-- `laying::put_ack` meets its contract: each way out is an instance of a law of Given and Widths.
use mathlib.Core.Path.{ap}
use mathlib.Core.List.{[], ◌∷◌}
use Prim.Native.Nat.{ℕ}
use Rattle.common.specs.Laid.{laid_as, lays, done, next}
use Rattle.wire.specs.Write.{ack_bytes}
use Rattle.laying.proofs.Given.{given_room, laid_on, laid_off}
use Rattle.laying.proofs.put_ack.Goals as goal

pub returns-then-flag : goal.returns-then-flag
returns-then-flag c = laid_on _ _ c.if-flag.true
    (lays (next c.put_word-time.ensures (next c.put_three-gap.ensures (next c.lay_byte-halves.ensures (next (laid_as (ap (λ (n : ℕ). n ∷ []) c.halves.ensures) c.lay_byte-rest.ensures) (next c.lay.ensures done)))))
    (given_room _ (ack_bytes c.args.ack c.args.additions.now) _ _ c.if-flag.true c.requires.additions_in_bounds))

pub returns-else-flag : goal.returns-else-flag
returns-else-flag c = laid_off _ _ _ _ c.if-flag.false
