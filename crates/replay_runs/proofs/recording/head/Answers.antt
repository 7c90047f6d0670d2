-- The head's end lies in the buffer: what was written fits.
use Rattle.std.proofs.Common.{◌∙◌}
use Rattle.text.specs.Within.{wrote_fits}
use Rattle.replay_runs.proofs.Recorded.{written_within}
use Rattle.replay_runs.proofs.recording.head.Goals as goal

pub returns : goal.returns
returns c = written_within _ c.unwrap_or.ensures (λ n q. wrote_fits _ _ _ (q ∙ c.head.ensures.answer))
