-- `number` meets its contract: where the loop stands, the digits still to come and the value so far decide what the whole is.
use native.Mathlib.Omega.{arith}
use Rattle.std.proofs.Common.{rules}
use mathlib.Core.Path.{refl, sym, ◌∙◌}
use Rattle.trace.proofs.Numbers.{digit_range, digits_more, digits_stop, digits_done, value_more, value_done, value_none, leads_alone, leads_other, number_empty, number_leads, number_other, number_large, number_given}
use Rattle.trace_numbers.proofs.number.Goals as goal
use Rattle.trace_numbers.proofs.number.Goals.{else-text-gt1-via-then-text-gt1+else-text-eq48, else-text-gt1-via-else-text-gt1}

pub returns-then-is_empty : goal.returns-then-is_empty
returns-then-is_empty c = number_empty _ (search rules)

pub returns-then-text-eq48 : goal.returns-then-text-eq48
returns-then-text-eq48 c = number_leads _ c.if-text-gt1.true c.if-text-eq48.true

pub loop-d-init : goal.loop-d-init
loop-d-init c = (
  omega arith,
  elim c.else-text-gt1.branch [ else-text-gt1-via-then-text-gt1+else-text-eq48 w ↦ leads_other _ w.if-text-eq48.false | else-text-gt1-via-else-text-gt1 w ↦ leads_alone _ w.if-text-gt1.false ],
  refl,
  value_none _,
)

pub returns-then-not-digit : goal.returns-then-not-digit
returns-then-not-digit c =
    let t = c.loop-d-test.true in
    number_other _ (digits_stop _ _ t (sym c.digit.ensures ∙ c.if-not-digit.true) ∙ c.loop-d.invariant.2)

pub overflow_sub-value : goal.overflow_sub-value
overflow_sub-value c = (digit_range _ (sym c.digit.ensures ∙ c.if-not-digit.false)).0

pub returns-then-value-gt-HIGHEST : goal.returns-then-value-gt-HIGHEST
returns-then-value-gt-HIGHEST c = number_large _ _ _ c.loop-d-test.true c.loop-d.invariant.3 c.if-value-gt-HIGHEST.true

pub loop-d-preserved : goal.loop-d-preserved
loop-d-preserved c =
    let t = c.loop-d-test.true in
    let l = c.loop-d in (
      omega arith,
      l.invariant.1,
      digits_more _ _ t (sym c.digit.ensures ∙ c.if-not-digit.false) ∙ l.invariant.2,
      value_more _ _ l.value t ∙ l.invariant.3,
    )

pub returns : goal.returns
returns c =
    let e = c.loop-d-test.false in
    let l = c.loop-d in
    number_given _ _ (search rules) l.invariant.1 (digits_done _ _ e ∙ l.invariant.2) (value_done _ _ _ e ∙ l.invariant.3) l.invariant.0
