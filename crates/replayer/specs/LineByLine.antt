-- The steps over all lines of a trace give its replay: the answers of the same calls one by one, and the record that they leave.
use Rattle.std.specs.Prelude.{ℕ, List, ◌≡◌}
use Rattle.std.proofs.Common.{◌∙◌, ap}
use Rattle.trace.specs.Read.{fresh_cursor, head_of}
use Rattle.replayer.specs.Replay.{blank_store, head_replayed}
use Rattle.trace_state.specs.Steps.{begun, run_of}
use Rattle.replayer.specs.LineLaws.{format_run, same_head}

pub line_by_line : (ls : List (List ℕ)) → run_of (begun blank_store blank_store) ls ≡ head_replayed (head_of ls)
line_by_line ls = format_run fresh_cursor ls ∙ ap head_replayed (same_head ls)
