-- `marking::mark` meets its contract: each way out is an instance of a law of Moving.
use mathlib.Core.Path.{refl}
use Rattle.marking.proofs.Moving.{mark_below, mark_within}
use Rattle.marking.proofs.mark.Goals as goal

pub returns-then-n-m : goal.returns-then-n-m
returns-then-n-m c = (mark_below 32 _ _ c.if-n-m.true, refl)

pub returns : goal.returns
returns c = (mark_within 32 _ _ _ c.if-n-m.false c.place-at.ensures.0, refl)
