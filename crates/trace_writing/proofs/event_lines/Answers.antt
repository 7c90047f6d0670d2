-- `event_lines` meets its contract: the lead, the bytes as text and the newline are laid one after the other.
use native.Mathlib.Omega.{arith}
use Rattle.trace.specs.DataLaws.{hex_length}
use Rattle.trace.proofs.Texts.{event_lays}
use Rattle.trace_writing.proofs.event_lines.Goals as goal

pub lay-requires : goal.lay-requires
lay-requires c = omega (arith, hex_length c.args.bytes.now)

pub returns : goal.returns
returns c = event_lays _ _ c.requires c.lay-at1.ensures c.hex_text-at2.ensures c.lay.ensures
