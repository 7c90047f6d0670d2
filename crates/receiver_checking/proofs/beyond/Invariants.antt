-- `receiver_checking::beyond` meets its contract: where room is the whole window, nothing lies past it; else its loop's flag is raised where a place before it is wrong.
use mathlib.Core.Path.{◌≡◌}
use Rattle.common.specs.EveryLaws.{raised}
use Rattle.receiver_checking.specs.Checking.{held_low}
use Rattle.receiver_checking.proofs.beyond.Given as goal

abbrev pub invariant-loop-k : goal.invariant-loop-k
invariant-loop-k l = l.wrong ≡ raised l.initial.wrong (held_low 32 l.fn.holds l.due l.room) l.k
