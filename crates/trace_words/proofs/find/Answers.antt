-- `find` meets its contract: as long as x was not met, what stands before x from here on ends where it did from the start on.
use native.Mathlib.Omega.{arith}
use mathlib.Core.Path.{◌≡◌, refl, ◌∙◌}
use Rattle.trace.proofs.Words.{up_to_here, up_to_skip, up_to_none}
use Rattle.trace_words.proofs.find.Goals as goal

pub loop-i-init : goal.loop-i-init
loop-i-init c = (omega arith, refl)

pub returns-then-b-i : goal.returns-then-b-i
returns-then-b-i c = up_to_here _ _ _ c.loop-i-test.true c.if-b-i.true ∙ c.loop-i.invariant.1

pub loop-i-preserved : goal.loop-i-preserved
loop-i-preserved c = (omega arith, up_to_skip _ _ _ c.loop-i-test.true c.if-b-i.false ∙ c.loop-i.invariant.1)

pub returns : goal.returns
returns c =
    let e : c.max.result ≡ c.loop-i.i = omega arith in
    e ∙ up_to_none _ _ _ c.loop-i-test.false ∙ c.loop-i.invariant.1
