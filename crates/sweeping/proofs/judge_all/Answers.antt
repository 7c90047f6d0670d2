-- `sweeping::judge_all` meets its contract: each way out is an instance of a law.
use Prim.Native.Nat.{◌+◌, ◌-◌}
use mathlib.Core.Path.{◌≡◌}
use native.Mathlib.Omega.{arith}
use Rattle.sweeping.proofs.Losing.{passed_none, passed_next, passed_all}
use Rattle.sweeping.proofs.judge_all.Goals as goal

pub loop-i-init : goal.loop-i-init
loop-i-init c = passed_none 32 _ _

pub counted-count-requires : goal.counted-count-requires
counted-count-requires c = omega (arith, c.loop-i.invariant.count_fits)

pub counted-higher-requires : goal.counted-higher-requires
counted-higher-requires c = omega (arith, c.loop-i.invariant.higher_fits)

pub loop-i-preserved : goal.loop-i-preserved
loop-i-preserved c =
    rw c.place-at.ensures.0 (passed_next 32 _ _ _ _ _ c.loop-i.i _ _ _ _ (let h : c.loop-i.i ≡ c.loop-i.i - 1 + 1 = omega arith in h)
    c.loop-i.invariant
    (record {
      judged = rw c.place-at.ensures.0 at c.loses-lost.ensures;
      counts = rw c.place-at.ensures.0 at c.counted-count.ensures;
      receives = rw c.place-at.ensures.0 at c.counted-higher.ensures;
    }))

pub returns : goal.returns
returns c = passed_all 32 _ _ _ _ _ c.loop-i.i (omega arith) c.loop-i.invariant
