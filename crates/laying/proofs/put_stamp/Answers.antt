-- `laying::put_stamp` meets its contract: each way out is an instance of a law of Given and Widths.
use native.Mathlib.Omega.{arith}
use mathlib.Core.List.{[], ◌∷◌, ◌++◌}
use Rattle.common.specs.Laid.{laid_then}
use Rattle.wire.specs.Write.{three_bytes}
use Rattle.laying.proofs.Given.{given_room, laid_on, laid_off}
use Rattle.laying.proofs.put_stamp.Goals as goal

pub returns-then-vector : goal.returns-then-vector
returns-then-vector c = laid_on _ _ c.if-vector.true (laid_then (omega (arith, given_room _ (three_bytes c.args.vector.time ++ (c.args.vector.gap ∷ [])) _ _ c.if-vector.true c.requires.vector_in_bounds)) c.put_three-gap.ensures c.lay_byte.ensures)

pub returns-else-vector : goal.returns-else-vector
returns-else-vector c = laid_off _ _ _ _ c.if-vector.false
