-- A trace, read: "The first line is exactly `format=counter-trace`, then `edition=1`, then `first=D,C` (the two first numbers) and `timeout=T`. After that
-- each event has its lines in fixed order: `tick=`, `kind=` .., `data=` in lower-case hex, empty where the kind has none."
-- First by the lines of the whole trace, then line by line, as the calls read it.
use Rattle.std.specs.Prelude.{ℕ, Bool, true, false, cond, not, List, [], ◌∷◌, length, drop, eqb, ltb}
use Rattle.common.specs.Every.{every}
use Rattle.common.specs.Order.{test, first}
use Rattle.text.specs.Ascii.{ascii}
use Rattle.trace.specs.declared.Cursor.{Cursor}
use Rattle.trace.specs.Words.{same, starts_with}
use Rattle.trace.specs.Numbers.{number_under, first_of, on_number, on_pair}
use Rattle.trace.specs.Hex.{hex_good, hex_bytes}
use Rattle.trace.specs.Kinds.{kind_of, carries}

-- an event
pub record Event : Type 0 where
  pub tick : ℕ
  pub kind : ℕ
  pub bytes : List ℕ

abbrev pub event : ℕ → ℕ → List ℕ → Event
event t k d = record { tick = t; kind = k; bytes = d }

-- a line of data that is well written for an event of this kind
unfoldable pub data_good : ℕ → List ℕ → Bool
data_good kind l = every (starts_with (ascii "data=") l ∷ hex_good (drop 5 l) ∷ cond (carries kind) true (eqb (length l) 5) ∷ [])

unfoldable pub data_bytes : List ℕ → List ℕ
data_bytes l = hex_bytes (drop 5 l)

-- what the head says, with the lines behind it; or that a line of it is badly written, out of order or missing
pub data Head : Type 0 where
  no_head : Head
  head : (firstdata firstchannel timeout : ℕ) (rest : List (List ℕ)) → Head

unfoldable pub head_of : List (List ℕ) → Head
head_of [] = no_head
head_of (f ∷ []) = no_head
head_of (f ∷ e ∷ []) = no_head
head_of (f ∷ e ∷ p ∷ []) = no_head
head_of (f ∷ e ∷ p ∷ t ∷ ls) =
    cond (same f (ascii "format=counter-trace"))
    (cond (same e (ascii "edition=1"))
    (on_pair (first_of p) (λ d c. on_number (number_under (ascii "timeout=") t) (λ m. head d c m ls) no_head) no_head) no_head)
    no_head

-- the events up to the first line that is refused or missing, and whether there is no such line
pub record Events : Type 0 where
  pub events : List Event
  pub whole : Bool

abbrev pub events : List Event → Bool → Events
events es w = record { events = es; whole = w }

abbrev pub and_then : Event → Events → Events
and_then x y = events (x ∷ y.events) y.whole

unfoldable pub events_of : List (List ℕ) → Events
events_of [] = events [] true
events_of (t ∷ []) = events [] false
events_of (t ∷ k ∷ []) = events [] false
events_of (t ∷ k ∷ d ∷ ls) =
    on_number (number_under (ascii "tick=") t)
    (λ n. cond (eqb (kind_of k) 0) (events [] false)
    (cond (data_good (kind_of k) d) (and_then (event n (kind_of k) (data_bytes d)) (events_of ls)) (events [] false)))
    (events [] false)

-- which line is due, by number
abbrev pub format_due : ℕ
format_due = 0

abbrev pub edition_due : ℕ
edition_due = 1

abbrev pub first_due : ℕ
first_due = 2

abbrev pub timeout_due : ℕ
timeout_due = 3

abbrev pub tick_due : ℕ
tick_due = 4

abbrev pub kind_due : ℕ
kind_due = 5

abbrev pub data_due : ℕ
data_due = 6

-- none is: a line of an event was refused, or one of the head
abbrev pub broken : ℕ
broken = 7

abbrev pub headless : ℕ
headless = 8

-- the cursor before the first line
abbrev pub fresh_cursor : Cursor
fresh_cursor = record { due = format_due; firstdata = 0; firstchannel = 0; timeout = 0; tick = 0; kind = 0 }

-- a cursor with what one more line says, and the line due after it
abbrev pub due_of : Cursor → ℕ → Cursor
due_of c n = record { due = n; firstdata = c.firstdata; firstchannel = c.firstchannel; timeout = c.timeout; tick = c.tick; kind = c.kind }

abbrev pub first_read : Cursor → ℕ → ℕ → Cursor
first_read c d h = record { due = timeout_due; firstdata = d; firstchannel = h; timeout = c.timeout; tick = c.tick; kind = c.kind }

abbrev pub timeout_read : Cursor → ℕ → Cursor
timeout_read c t = record { due = tick_due; firstdata = c.firstdata; firstchannel = c.firstchannel; timeout = t; tick = c.tick; kind = c.kind }

abbrev pub tick_read : Cursor → ℕ → Cursor
tick_read c t = record { due = kind_due; firstdata = c.firstdata; firstchannel = c.firstchannel; timeout = c.timeout; tick = t; kind = c.kind }

abbrev pub kind_read : Cursor → ℕ → Cursor
kind_read c k = record { due = data_due; firstdata = c.firstdata; firstchannel = c.firstchannel; timeout = c.timeout; tick = c.tick; kind = k }

-- by the line that is due
unfoldable pub at_format : Cursor → List ℕ → Cursor
at_format c l = due_of c (cond (same l (ascii "format=counter-trace")) edition_due headless)

unfoldable pub at_edition : Cursor → List ℕ → Cursor
at_edition c l = due_of c (cond (same l (ascii "edition=1")) first_due headless)

unfoldable pub at_first : Cursor → List ℕ → Cursor
at_first c l = on_pair (first_of l) (λ d h. first_read c d h) (due_of c headless)

unfoldable pub at_timeout : Cursor → List ℕ → Cursor
at_timeout c l = on_number (number_under (ascii "timeout=") l) (λ t. timeout_read c t) (due_of c headless)

unfoldable pub at_tick : Cursor → List ℕ → Cursor
at_tick c l = on_number (number_under (ascii "tick=") l) (λ t. tick_read c t) (due_of c broken)

unfoldable pub at_kind : Cursor → List ℕ → Cursor
at_kind c l = cond (eqb (kind_of l) 0) (due_of c broken) (kind_read c (kind_of l))

-- one line, unless it is one of data; where none is due, nothing changes
unfoldable pub next_of : Cursor → List ℕ → Cursor
next_of c l =
    cond (eqb c.due format_due) (at_format c l)
    (cond (eqb c.due edition_due) (at_edition c l)
    (cond (eqb c.due first_due) (at_first c l)
    (cond (eqb c.due timeout_due) (at_timeout c l)
    (cond (eqb c.due tick_due) (at_tick c l)
    (cond (eqb c.due kind_due) (at_kind c l) c)))))

-- behind a line of data the next tick is due, or no line any more where it was refused; where no data is due, nothing changes
unfoldable pub behind_data : Cursor → Bool → Cursor
behind_data c taken = cond (eqb c.due data_due) (due_of c (cond taken tick_due broken)) c

-- a line of data: 16, then 14
unfoldable pub data_answer : ℕ → List ℕ → ℕ → ℕ
data_answer kind l room = first (test (not (data_good kind l)) 16 ∷ test (ltb room (length (data_bytes l))) 14 ∷ [])
