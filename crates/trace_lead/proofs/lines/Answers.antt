-- `lines` meets its contract: the line of the tick and the kind's word between its neighbours are laid one after the other.
use native.Mathlib.Omega.{arith}
use Rattle.text.specs.Within.{within, within_as, within_four}
use Rattle.trace.proofs.Texts.{lead_parts}
use Rattle.trace_lead.proofs.lines.Goals as goal

pub returns : goal.returns
returns c = within_as (lead_parts _ _) (within_four c.requires c.field-at1.ensures (within 5 (omega arith) c.lay-at2.ensures) c.kind_word-at3.ensures (within 6 (omega arith) c.lay.ensures))
