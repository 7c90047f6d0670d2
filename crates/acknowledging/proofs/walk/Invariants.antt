-- `acknowledging::walk` meets its contract: each way out is an instance of a law.
use Prim.Native.Nat.{◌+◌, ◌*◌, ◌≤◌}
use mathlib.Core.Bool.{false}
use mathlib.Core.List.{◌++◌}
use mathlib.Core.Path.{◌≡◌}
use lib.ListN.{drop, replicate}
use Rattle.vector.specs.Says.{says_of, states_in, states_of}
use Rattle.wire.specs.Layout.{part_of}
use Rattle.acknowledging.specs.Walk.{walk_of}
use Rattle.acknowledging.proofs.walk.Given as goal

abbrev pub invariant-loop-i : goal.invariant-loop-i
invariant-loop-i l = (l.n ≡ l.initial.n + l.i) × (l.never ≡ false) × (walk_of 32 (drop l.i (states_in (says_of l.b)) ++ states_of (drop (l.j + 1) (part_of l.d l.at l.size))) l.n l.next l.low l.flags ≡ walk_of 32 (states_of (part_of l.d l.at l.size)) l.base l.next l.low (replicate 32 false))

abbrev pub invariant-bytes : goal.invariant-bytes
invariant-bytes l = (l.n ≤ l.base + 255 * l.j) × (l.never ≡ false) × (walk_of 32 (states_of (drop l.j (part_of l.d l.at l.size))) l.n l.next l.low l.flags ≡ walk_of 32 (states_of (part_of l.d l.at l.size)) l.base l.next l.low (replicate 32 false))
