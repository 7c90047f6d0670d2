-- `lines` meets its contract: a trace that is too long has its one line, and any other the lines of its steps.
use Rattle.replayer.proofs.Ending.{replay_long, replay_lines}
use Rattle.replayer.proofs.lines.Goals as goal

pub returns-then-trace-gt-LONGEST_TRACE : goal.returns-then-trace-gt-LONGEST_TRACE
returns-then-trace-gt-LONGEST_TRACE c = replay_long _ c.if-trace-gt-LONGEST_TRACE.true c.answer_line.ensures

pub returns : goal.returns
returns c = replay_lines _ c.if-trace-gt-LONGEST_TRACE.false c.fresh_run.ensures
