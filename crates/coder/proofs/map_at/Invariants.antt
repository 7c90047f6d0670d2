-- `coder::map_at` meets its contract. The map so far is the map of the states from k on; a turn puts the state before them in front.
-- Assumes nothing.
use Prim.Native.Nat.{◌+◌, ◌-◌}
use mathlib.Core.Path.{◌≡◌}
use lib.ListN.{take, drop}
use Rattle.vector.specs.Rule.{map_of}
use Rattle.coder.proofs.map_at.Given as goal

abbrev pub invariant-loop-k : goal.invariant-loop-k
invariant-loop-k l = l.m ≡ map_of (take (7 - l.k) (drop (l.i + l.k) l.states))
