-- `coder::run_at` meets its contract. The n states seen, and those alike that follow, give the run; it ends at 63, at the range's end, or at another state.
-- Assumes nothing.
use Prim.Native.Nat.{◌+◌, min}
use mathlib.Core.Path.{◌≡◌}
use lib.ListN.{drop}
use Rattle.vector.specs.Rule.{alike, run_of}
use Rattle.coder.proofs.run_at.Given as goal

abbrev pub invariant-loop-n : goal.invariant-loop-n
invariant-loop-n l = min 63 (l.n + alike l.s (drop (l.i + l.n) l.states)) ≡ run_of l.s (drop (l.i + 1) l.states)
