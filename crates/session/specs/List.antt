-- The list of sessions: what a call answers, and what the list is afterwards. A call other than opening looks at one place.
use Rattle.std.specs.Prelude.{ℕ, suc, cond, List, [], ◌∷◌, length, get_or, set}
use Rattle.session.specs.declared.Session.{Session}
use Rattle.session.specs.Place.{blank, place_of, free_of}
use Rattle.session.specs.Call.{Asked, Made, made_of}
use Rattle.session.specs.Open.{Opening, opening_of}

-- by number and token: what becomes of the session at the number's place
abbrev pub outcome_of : List Session → ℕ → ℕ → List ℕ → Asked → Made
outcome_of l number token store q = made_of (length l) number token (get_or l (place_of number) blank) store q

-- the list afterwards: that place is set, and no other
abbrev pub list_of : List Session → ℕ → ℕ → List ℕ → Asked → List Session
list_of l number token store q = set l (place_of number) (outcome_of l number token store q).session

-- the lowest free place, counted from 0; the list's length where none is free
abbrev pub lowest_of : List Session → ℕ
lowest_of [] = 0
lowest_of (x ∷ xs) = cond (free_of x) 0 (suc (lowest_of xs))

-- opening, at the lowest free place
abbrev pub opening_at : List Session → ℕ → ℕ → ℕ → ℕ → Opening
opening_at l token firstdata firstchannel timeout =
    opening_of (length l) (lowest_of l) token (get_or l (lowest_of l) blank) firstdata firstchannel timeout

-- the list after an opening
abbrev pub open_list_of : List Session → ℕ → ℕ → ℕ → ℕ → List Session
open_list_of l token firstdata firstchannel timeout = set l (lowest_of l) (opening_at l token firstdata firstchannel timeout).session
