-- The cursor behind a line of data.
use mathlib.Core.Bool.{Bool, true, false}
use mathlib.Core.Path.{◌≡◌}
use borrow.Author.Tests.{eq-eqb}
use Rattle.trace.specs.declared.Cursor.{Cursor}
use Rattle.trace.specs.Read.{due_of, behind_data}

-- behind a line of data that is taken or refused
module _ (c : Cursor) (taken : Bool) where
  pub behind_taken : {r : Cursor} → c.due ≡ 6 → taken ≡ true → r ≡ due_of c 4 → r ≡ behind_data c taken
  unfolding behind_data
  behind_taken h t e = rw (eq-eqb c.due 6 h, t) e

  pub behind_refused : {r : Cursor} → c.due ≡ 6 → taken ≡ false → r ≡ due_of c 7 → r ≡ behind_data c taken
  unfolding behind_data
  behind_refused h t e = rw (eq-eqb c.due 6 h, t) e
