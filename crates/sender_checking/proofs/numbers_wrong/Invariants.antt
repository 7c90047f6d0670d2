-- `sender_checking::numbers_wrong` meets its contract: its loop's flag is raised where low's place or a place before it is wrong.
use mathlib.Core.Path.{◌≡◌}
use Rattle.common.specs.EveryLaws.{raised}
use Rattle.sender_checking.specs.Checking.{number_placed}
use Rattle.sender_checking.proofs.numbers_wrong.Given as goal

abbrev pub invariant-loop-j : goal.invariant-loop-j
invariant-loop-j l = l.wrong ≡ raised l.initial.wrong (number_placed 32 l.fn.numbers l.low.0 l.next) l.j
