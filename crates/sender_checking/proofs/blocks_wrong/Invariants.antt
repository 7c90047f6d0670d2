-- `sender_checking::blocks_wrong` meets its contract: its loop's flag is raised where channel low's place or a place before it is wrong.
use mathlib.Core.Path.{◌≡◌}
use Rattle.common.specs.EveryLaws.{raised}
use Rattle.sender_checking.specs.Checking.{block_placed}
use Rattle.sender_checking.proofs.blocks_wrong.Given as goal

abbrev pub invariant-loop-k : goal.invariant-loop-k
invariant-loop-k l = l.wrong ≡ raised l.initial.wrong (block_placed 32 l.fn.blocks l.marks l.low.0 l.next) l.k
