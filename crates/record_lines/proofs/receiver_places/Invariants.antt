-- `receiver_places` meets its contract: the places below i are laid, and each turn lays the next behind them.
use Prim.Native.Nat.{◌*◌}
use Rattle.text.specs.Within.{LaidWithin}
use Rattle.record_lines.specs.Record.{receiver_place, all_places}
use Rattle.record_lines.proofs.receiver_places.Given as goal

abbrev pub invariant-loop-i : goal.invariant-loop-i
invariant-loop-i l = LaidWithin (131 * l.i) (all_places (receiver_place l.r) l.i) l.initial.out l.at l.out l.to
