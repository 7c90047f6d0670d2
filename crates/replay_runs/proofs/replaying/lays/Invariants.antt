use Rattle.std.proofs.Common.{◌≤◌, length}
use Rattle.replay_runs.proofs.replaying.lays.Given as goal

abbrev pub invariant-loop-b : goal.invariant-loop-b
invariant-loop-b l = l.at ≤ length l.out
