-- `fixed_lines` meets its contract: two lines with their newlines are laid one after the other.
use native.Mathlib.Omega.{arith}
use Rattle.text.specs.Within.{within, within_four}
use Rattle.trace_head.proofs.fixed_lines.Goals as goal

pub returns : goal.returns
returns c = within_four c.requires (within 20 (omega arith) c.lay-at1.ensures) (within 1 (omega arith) c.lay-at2.ensures) (within 9 (omega arith) c.lay-at3.ensures) (within 1 (omega arith) c.lay.ensures)
