-- `sender_checking::walk_numbers` meets its contract: each number is an instance of a law, and so is the way out.
use Prim.Native.Nat.{ℕ, ◌-◌}
use Rattle.sender_checking.specs.Checking.{sender_of}
use Rattle.sender_checking.proofs.Walking.{Walking}
use Rattle.sender_checking.proofs.walk_numbers.Given as goal

abbrev pub invariant-loop-n : goal.invariant-loop-n
invariant-loop-n l = (firstdata timeout logwindow : ℕ) → Walking 32 (sender_of firstdata timeout logwindow l.numbers l.blocks l.low l.next l.firstchannel.0 l.channellow.0 l.channelnext.0) l.marks (l.n - l.low)
