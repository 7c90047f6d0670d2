-- `coder::map_at` meets its contract. The map so far is the map of the states from k on; a turn puts the state before them in front.
-- Assumes nothing.
use Prim.Native.Nat.{◌+◌, ◌-◌}
use mathlib.Core.Bool.{false}
use mathlib.Core.Path.{refl, ◌∙◌}
use native.Mathlib.Omega.{arith}
use lib.ListN.{get_or}
use Rattle.vector.specs.Rule.{map_of}
use Rattle.coder.proofs.Turns.{bit_small, map_small, map_more}
use Rattle.coder.proofs.map_at.Goals as goal

pub loop-k-init : goal.loop-k-init
unfolding map_of
loop-k-init c = refl

pub in_front-m-requires : goal.in_front-m-requires
in_front-m-requires c =
    let a = c.args in
    let l = c.loop-k in (
      rw c.bit_at.ensures (bit_small (get_or a.states.now (a.i + (l.k - 1)) false)),
      rw l.invariant (map_small _ l.k (omega arith)),
    )

pub loop-k-preserved : goal.loop-k-preserved
loop-k-preserved c =
    let a = c.args in
    let l = c.loop-k in
    c.in_front-m.ensures ∙ rw (c.bit_at.ensures, l.invariant) (map_more a.states.now a.i l.k (omega arith) (omega arith))
