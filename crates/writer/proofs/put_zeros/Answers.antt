-- `writer::put_zeros` meets its contract: each way out is an instance of a law of Framing.
use native.Mathlib.Omega.{arith}
use Prim.Native.Nat.{ℕ, ◌-◌}
use mathlib.Core.Path.{◌≡◌, ap}
use lib.ListN.{replicate}
use Rattle.common.specs.Laid.{laid_as, laid_nothing}
use Rattle.writer.proofs.put_zeros.Goals as goal

pub returns-else-k-lt7 : goal.returns-else-k-lt7
returns-else-k-lt7 c =
    let e : 0 ≡ 7 - c.args.k = omega arith in
    laid_as (ap (λ (n : ℕ). replicate {A = ℕ} n 0) e) (laid_nothing _ _)
