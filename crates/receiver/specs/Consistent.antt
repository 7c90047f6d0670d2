-- What makes the receiver's half of a record inconsistent, in document 01's words, as a list of tests that a consistent record passes.
-- w places are in use, of cap that the arrays have.
use Rattle.std.specs.Prelude.{ℕ, ◌+◌, ◌-◌, Bool, cond, not, List, [], ◌∷◌, length, get_or, eqb, leb, ltb}
use Rattle.common.specs.Every.{every, all_below, implies}
use Rattle.numbers.specs.Full.{highest, past_highest, highest_first}
use Rattle.window.specs.Store.{place_size, sound_with}
use Rattle.receiver.specs.declared.Hold.{Hold}
use Rattle.receiver.specs.declared.Receiver.{Receiver}
use Rattle.receiver.specs.Record.{is_marked, is_held, empty, mark_at, hold_at}

-- "a first .. is outside opening's range"; "base, end, due .. is below its first or above 4,294,967,296"
abbrev pub bound_tests : ℕ → ℕ → ℕ → ℕ → ℕ → List Bool
bound_tests firstdata firstchannel base end due =
    leb firstdata highest_first
    ∷ leb firstchannel highest_first
    ∷ leb firstdata base
    ∷ leb base past_highest
    ∷ leb firstdata end
    ∷ leb end past_highest
    ∷ leb firstchannel due
    ∷ leb due past_highest
    ∷ []

unfoldable pub bounds_fit : ℕ → ℕ → ℕ → ℕ → ℕ → Bool
bounds_fit firstdata firstchannel base end due = every (bound_tests firstdata firstchannel base end due)

-- a flag is 0 or 1
abbrev pub is_flag : ℕ → Bool
is_flag f = leb f 1

-- "a mark lies at or past end", for what stands at the place of number n; a mark is a flag. Both n and end may be counted from base.
unfoldable pub mark_fits : ℕ → ℕ → ℕ → Bool
mark_fits m n end = every (is_flag m ∷ implies (is_marked m) (ltb n end) ∷ [])

-- "a held length exceeds 1,225", "a held block is above the full range", "an unused place is not zero", for what stands at the place of block c
abbrev pub held_tests : Hold → ℕ → List Bool
held_tests h c = leb h.length place_size ∷ leb c highest ∷ []

abbrev pub zero_tests : Hold → List Bool
zero_tests h = eqb h.held 0 ∷ eqb h.length 0 ∷ []

unfoldable pub hold_fits : Hold → ℕ → Bool
hold_fits h c = cond (is_held h) (every (held_tests h c)) (every (zero_tests h))

-- the i-th number from base on, and the i-th block from due on
unfoldable pub mark_ok : ℕ → Receiver → ℕ → Bool
mark_ok w r i = mark_fits (mark_at w r (r.base.0 + i)) (r.base.0 + i) r.end.0

unfoldable pub hold_ok : ℕ → Receiver → ℕ → Bool
hold_ok w r i = hold_fits (hold_at w r (r.due.0 + i)) (r.due.0 + i)

-- "an unused place is not zero", for the places past the window
unfoldable pub spare_mark : ℕ → Receiver → ℕ → Bool
spare_mark w r i = implies (leb w i) (eqb (get_or r.marks i 0) 0)

unfoldable pub spare_hold : ℕ → Receiver → ℕ → Bool
spare_hold w r i = implies (leb w i) (every (zero_tests (get_or r.holds i empty)))

abbrev pub consistency_tests : ℕ → ℕ → Receiver → List Bool
consistency_tests w cap r =
    -- the arrays have their places
    eqb (length r.marks) cap
    ∷ eqb (length r.holds) cap
    ∷ bounds_fit r.firstdata.0 r.firstchannel.0 r.base.0 r.end.0 r.due.0
    -- "a low or base stands on a place it should have passed"
    ∷ not (is_marked (mark_at w r r.base.0))
    -- "end lies above base + 32, or above base with end − 1 unmarked"
    ∷ leb r.end.0 (r.base.0 + w)
    ∷ implies (ltb r.base.0 r.end.0) (is_marked (mark_at w r (r.end.0 - 1)))
    -- place by place
    ∷ all_below (mark_ok w r) w
    ∷ all_below (hold_ok w r) w
    ∷ all_below (spare_mark w r) cap
    ∷ all_below (spare_hold w r) cap
    ∷ []

unfoldable pub consistent_of : ℕ → ℕ → Receiver → Bool
consistent_of w cap r = every (consistency_tests w cap r)

-- the record with its store
abbrev pub sound_of : ℕ → ℕ → Receiver → ℕ → Bool
sound_of w cap r size = sound_with w (consistent_of w cap r) size
