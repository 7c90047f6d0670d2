-- `kind_word` meets its contract: each kind has the word of the definition.
use mathlib.Core.Path.{refl}
use native.Mathlib.Omega.{arith}
use Rattle.text.specs.Within.{within, within_as}
use Rattle.trace.specs.Kinds.{kind_text}
use Rattle.trace_lead.proofs.kind_word.Goals as goal

pub returns-in-1 : goal.returns-in-1
unfolding kind_text
returns-in-1 c = within_as (rw c.in-1.is refl) (within 6 (omega arith) c.lay.ensures)

pub returns-in-2 : goal.returns-in-2
unfolding kind_text
returns-in-2 c = within_as (rw c.in-2.is refl) (within 6 (omega arith) c.lay-in-2.ensures)

pub returns-in-3 : goal.returns-in-3
unfolding kind_text
returns-in-3 c = within_as (rw c.in-3.is refl) (within 6 (omega arith) c.lay-in-3.ensures)

pub returns-in-4 : goal.returns-in-4
unfolding kind_text
returns-in-4 c = within_as (rw c.in-4.is refl) (within 6 (omega arith) c.lay-in-4.ensures)

pub returns-in-5 : goal.returns-in-5
unfolding kind_text
returns-in-5 c = within_as (rw c.in-5.is refl) (within 6 (omega arith) c.lay-in-5.ensures)

pub returns-in_default : goal.returns-in_default
unfolding kind_text
returns-in_default c =
    within_as (grind arith) (within 6 (omega arith) c.lay-in_default.ensures)
