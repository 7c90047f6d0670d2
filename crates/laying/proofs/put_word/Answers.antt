-- `laying::put_word` meets its contract: what its calls ensure, put together at each way out.
use native.Mathlib.Omega.{arith}
use Rattle.common.specs.Laid.{laid_then}
use Rattle.laying.proofs.put_word.Goals as goal

pub returns : goal.returns
returns c = laid_then (omega arith) c.lay_byte-high.ensures c.lay_byte.ensures
