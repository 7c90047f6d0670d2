-- `head_lines` meets its contract: the two lines that are always the same and the three numbers are laid one after the other.
use Rattle.text.specs.Within.{within_as, within_four}
use Rattle.trace.proofs.Texts.{head_parts}
use Rattle.trace_head.proofs.head_lines.Goals as goal

pub returns : goal.returns
returns c = within_as (head_parts _ _ _) (within_four c.requires c.fixed_lines-at1.ensures c.field-at2.ensures c.field-at3.ensures c.field.ensures)
