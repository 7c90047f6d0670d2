-- `turning::turn` meets its contract: each way out is an instance of a law.
use Prim.Native.Nat.{◌+◌, ◌-◌, ◌≤◌}
use mathlib.Core.Path.{◌≡◌}
use Rattle.turning.specs.Chosen.{chosen_by}
use Rattle.sender.specs.Turn.{turn_up_to, numbers_moved, blocks_moved}
use Rattle.turning.proofs.turn.Given as goal

abbrev pub invariant-loop-n : goal.invariant-loop-n
invariant-loop-n l = l.q ≡ turn_up_to 32 (record { number = l.number; block = l.block }) (chosen_by 32 l.flags l.upto) l.initial.q (l.n - l.initial.q.low.0)

abbrev pub invariant-loop : goal.invariant-loop
invariant-loop l = (l.q.low.0 ≤ l.initial.q.low.0 + l.counter) × (numbers_moved 32 (32 - l.counter) l.q ≡ numbers_moved 32 32 l.initial.q)

abbrev pub invariant-loop-2 : goal.invariant-loop-2
invariant-loop-2 l = (l.q.channellow.0 ≤ l.initial.q.channellow.0 + l.counter) × (blocks_moved 32 (32 - l.counter) l.q ≡ blocks_moved 32 32 l.initial.q)
