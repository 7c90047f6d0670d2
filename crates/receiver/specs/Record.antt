-- The receiver's record, over a window of w. "The record is base, end, next channel due, and which of 32 places are received, and which held, with the length."
use Rattle.std.specs.Prelude.{ℕ, Bool, List, eqb}
use Rattle.window.specs.Store.{stored_at}
use Rattle.window.specs.Window.{Win, here}
use Rattle.receiver.specs.declared.Hold.{Hold}
use Rattle.receiver.specs.declared.Receiver.{Receiver}

-- a record and the store that is lent with it
pub record State : Type 0 where
  pub receiver : Receiver
  pub store : List ℕ

abbrev pub state : Receiver → List ℕ → State
state r s = record { receiver = r; store = s }

abbrev pub is_marked : ℕ → Bool
is_marked m = eqb m 1

abbrev pub is_held : Hold → Bool
is_held h = eqb h.held 1

-- a place that holds nothing, and one that holds a block of n bytes
abbrev pub empty : Hold
empty = record { held = 0; length = 0 }

abbrev pub holding : ℕ → Hold
holding n = record { held = 1; length = n }

-- the record's two windows
abbrev pub marks_of : Receiver → Win ℕ
marks_of r = record { base = r.base.0; places = r.marks }

abbrev pub holds_of : Receiver → Win Hold
holds_of r = record { base = r.due.0; places = r.holds }

-- what stands at the place of a data number, and at that of a block
abbrev pub mark_at : ℕ → Receiver → ℕ → ℕ
mark_at w r n = here 0 w (marks_of r) n

abbrev pub hold_at : ℕ → Receiver → ℕ → Hold
hold_at w r c = here empty w (holds_of r) c

-- the bytes of block c, as its place has them
unfoldable pub contents : ℕ → State → ℕ → List ℕ
contents w s c = stored_at w s.store c (hold_at w s.receiver c).length
