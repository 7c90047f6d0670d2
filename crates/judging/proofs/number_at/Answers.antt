-- `judging::number_at` meets its contract: each way out is an instance of a law of Fields.
use Rattle.judging.proofs.Fields.{found_out, found_at, found_none}
use Rattle.judging.proofs.number_at.Goals as goal
use Rattle.judging.proofs.number_at.Goals.{in_default-via-in-At+else-not-out, in_default-via-in_default}

pub returns-in-At : goal.returns-in-At
returns-in-At g c = found_at _ _ _ _ _ c.widen-wide.ensures _ g.met.N.Number.full_of _ c.out_of_place-out.ensures _ c.if-not-out.true c.in-At.is

pub returns-in_default : goal.returns-in_default
returns-in_default g c =
    elim c.in_default.branch [
      | in_default-via-in-At+else-not-out w ↦ found_out _ _ _ _ _ c.widen-wide.ensures _ g.met.N.Number.full_of _ c.out_of_place-out.ensures w.if-not-out.false
      | in_default-via-in_default w ↦ found_none _ _ _ _ _ c.widen-wide.ensures w.in_default.not-At
    ]
