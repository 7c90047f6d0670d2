-- The event's end lies in the buffer: what was written fits the part that was lent.
use Rattle.std.proofs.Common.{arith}
use Rattle.replay_runs.proofs.Recorded.{recorded_fits}
use Rattle.replay_runs.proofs.recording.event.Goals as goal

pub overflow_add-result : goal.overflow_add-result
overflow_add-result c = omega (arith, recorded_fits _ _ _ c.args.out.now c.args.at c.requires c.event.ensures.answer c.unwrap_or.ensures)

pub returns : goal.returns
returns c = recorded_fits _ _ _ c.args.out.now c.args.at c.requires c.event.ensures.answer c.unwrap_or.ensures
