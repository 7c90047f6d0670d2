-- What `replay` wrote fits the array that it was lent.
use Rattle.std.proofs.Common.{◌≤◌, sym, arith, length-take-le}
use Rattle.text.specs.Within.{wrote_fits}
use Rattle.replay_runs.proofs.replaying.replays.Goals as goal

pub slice_bounds-text-end : goal.slice_bounds-text-end
slice_bounds-text-end g c = let h : c.in-Ok.k ≤ 131072 = wrote_fits _ _ _ c.in-Ok.ensures.answer in omega arith

pub slice_bounds-output-end : goal.slice_bounds-output-end
slice_bounds-output-end g c = let h : c.in-Ok.k ≤ 131072 = wrote_fits _ _ _ c.in-Ok.ensures.answer in sym (length-take-le _ _ (omega arith))
