-- `common::lay_byte` meets its contract: what its calls ensure, put together at each way out.
use mathlib.Core.Path.{refl}
use native.Mathlib.Omega.{arith}
use Rattle.common.specs.Put.{put_one}
use Rattle.common.proofs.lay_byte.Goals as goal

pub returns : goal.returns
returns c = record { bytes = put_one _ _ _ (omega arith); next = refl }
