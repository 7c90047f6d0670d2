-- `sender_places` meets its contract: the places below i are laid, and each turn lays the next behind them.
use Prim.Native.Nat.{◌*◌}
use Rattle.text.specs.Within.{LaidWithin}
use Rattle.record_lines.specs.Record.{sender_place, all_places}
use Rattle.record_lines.proofs.sender_places.Given as goal

abbrev pub invariant-loop-i : goal.invariant-loop-i
invariant-loop-i l = LaidWithin (193 * l.i) (all_places (sender_place l.s) l.i) l.initial.out l.at l.out l.to
