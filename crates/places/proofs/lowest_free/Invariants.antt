-- No place below `i` is free.
use Rattle.std.proofs.Common.{◌≤◌}
use Rattle.session.specs.List.{lowest_of}
use Rattle.places.proofs.lowest_free.Given as goal

abbrev pub invariant-loop-i : goal.invariant-loop-i
invariant-loop-i l = l.i ≤ lowest_of l.list
