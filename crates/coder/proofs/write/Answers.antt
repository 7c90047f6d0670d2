-- `coder::write` meets its contract. The buffer is tested against the vector's size before a byte is written, so a refusal leaves it as it is.
-- Assumes nothing.
use Rattle.std.specs.Prelude.{Ok}
use mathlib.Core.Path.{◌∙◌, ap}
use native.Mathlib.Omega.{arith}
use Rattle.vector.specs.Laws.{write_refused, write_done}
use Rattle.coder.proofs.write.Goals as goal

pub returns-then-out-n : goal.returns-then-out-n
returns-then-out-n c =
    let a = c.args in
    let both = write_refused a.states.now a.out.now (omega arith) in record { answer = both.0; bytes = both.1 }

pub returns : goal.returns
returns c =
    let a = c.args in
    let d = write_done a.states.now a.out.now (omega arith) in
    record { answer = rw c.size-n.ensures d.0; bytes = c.fill.ensures ∙ d.1 }
