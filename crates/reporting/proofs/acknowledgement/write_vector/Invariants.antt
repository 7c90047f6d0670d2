-- `receiver::acknowledgement::write_vector` meets its contract: each way out is an instance of a law of Acknowledging and Consistency and Vectors.
use mathlib.Core.Path.{◌≡◌}
use lib.ListN.{length, take}
use Rattle.receiver.specs.Acknowledge.{states_from}
use Rattle.reporting.proofs.acknowledgement.write_vector.Given as goal

abbrev pub invariant-loop-i : goal.invariant-loop-i
invariant-loop-i l = (length l.states ≡ 32) × (take l.i l.states ≡ states_from 32 l.r l.r.base.0 l.i)
