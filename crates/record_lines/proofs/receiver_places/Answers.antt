-- `receiver_places` meets its contract: the places below i are laid, and each turn lays the next behind them.
use mathlib.Core.Path.{◌≡◌}
use native.Mathlib.Omega.{arith}
use Rattle.text.specs.Within.{within_as, within_wider, within_length, within_then}
use Rattle.record_lines.specs.Record.{receiver_place}
use Rattle.record_lines.proofs.Parts.{room_left, places_none, places_more}
use Rattle.record_lines.proofs.receiver_places.Goals as goal

pub loop-i-init : goal.loop-i-init
loop-i-init c = places_none _ _ _

pub mark_line-mid-requires : goal.mark_line-mid-requires
mark_line-mid-requires c = omega (arith, room_left 131 (omega arith) c.loop-i.invariant)

pub hold_line-to-requires : goal.hold_line-to-requires
hold_line-to-requires c =
    room_left 76
    (room_left 131 (omega arith) c.loop-i.invariant)
    c.mark_line-mid.ensures

pub loop-i-preserved : goal.loop-i-preserved
unfolding receiver_place
loop-i-preserved c =
    within_as (places_more _ _) (within_wider _ (omega arith)
    (within_then (omega arith) c.loop-i.invariant
    (λ h. within_then h c.mark_line-mid.ensures (λ h. c.hold_line-to.ensures))))

pub returns : goal.returns
returns c = let e : c.loop-i.i ≡ 32 = omega arith in rw e at c.loop-i.invariant

pub shape_of-out : goal.shape_of-out
shape_of-out c = within_length c.requires (returns c)
