-- The window of marks as the code hands it on by itself.
use Rattle.std.specs.Prelude.{ℕ}
use Rattle.window.specs.Window.{Win}
use Rattle.marking.specs.declared.Marks.{Marks}

abbrev pub win_of : Marks → Win ℕ
win_of m = record { base = m.base.0; places = m.places }
