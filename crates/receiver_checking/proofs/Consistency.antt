-- A record's consistency: a law for each way out of the functions that test it, and what a consistent record tells.
use Prim.Native.Nat.{ℕ, ◌+◌, ◌-◌, ◌%◌, ◌≤◌, ◌<◌}
use mathlib.Core.Bool.{Bool, true, false, cond, not, ◌&&◌, ◌||◌}
use mathlib.Core.List.{List, [], ◌∷◌, map}
use mathlib.Core.Path.{◌≡◌, refl, sym, ◌∙◌, ap}
use native.Mathlib.Nat.{mod-lt}
use native.Mathlib.Omega.{arith}
use lib.ListN.{length, get_or, length-map}
use lib.Dec.{eqb, leb, ltb}
use borrow.Author.Tests.{lt-ltb, le-ltb, le-leb, lt-leb, eq-eqb, ne_eqb, leb-true, not-false}
use Rattle.common.specs.Every.{every, all_below, implies}
use Rattle.common.specs.Facts.{ltb_not, leb_not, clash, not_so}
use Rattle.numbers.specs.Full.{highest, past_highest}
use Rattle.window.specs.Store.{place_size}
use Rattle.window.specs.Places.{past_of}
use Rattle.window.specs.EachPlace.{count_of, all_placed, past_below}
use Rattle.receiver.specs.declared.Hold.{Hold}
use Rattle.receiver.specs.declared.Receiver.{Receiver}
use Rattle.receiver.specs.Record.{is_marked, is_held, empty, mark_at, hold_at}
use Rattle.receiver.specs.Consistent.{bound_tests, bounds_fit, mark_fits, zero_tests, hold_fits, mark_ok, hold_ok, spare_mark, spare_hold, consistency_tests, consistent_of}
use Rattle.receiver_checking.specs.Checking.{held_low}
use Rattle.common.specs.EveryLaws.{every_at, every_fails, every_skip, every_none, every_made, every_one, implies_if, implies_else, imply, all_from, all_both}

-- an array's length, told of its elements' machine values, is its elements'
pub unmapped : (X Y : Type 0) (f : X → Y) (l : List X) (n : ℕ) → length (map f l) ≡ n → length l ≡ n
unmapped X Y f l n p = sym (length-map l f) ∙ p

-- ONE PLACE

pub mark_wrong_is : (m past span : ℕ) → (ltb 1 m || (eqb m 1 && leb span past)) ≡ not (mark_fits m past span)
unfolding mark_fits every implies
mark_wrong_is m past span = rw (ltb_not 1 m, leb_not span past) (go (leb m 1) (eqb m 1) (ltb past span))
  where
    go : (flag one below : Bool) → (not flag || (one && not below)) ≡ not (cond flag (cond (cond one below true) true false) false)
    go true true true = refl
    go true true false = refl
    go true false below = refl
    go false one below = refl

pub hold_wrong_is : (h : Hold) → ((is_held h && ltb place_size h.length) || (not (is_held h) && (not (eqb h.held 0) || not (eqb h.length 0)))) ≡ not (hold_fits h 0)
unfolding hold_fits every
hold_wrong_is h = rw (ltb_not place_size h.length) (go (is_held h) (leb h.length place_size) (eqb h.held 0) (eqb h.length 0))
  where
    go : (held short none zero : Bool) → ((held && not short) || (not held && (not none || not zero))) ≡ not (cond held (cond short true false) (cond none (cond zero true false) false))
    go true true none zero = refl
    go true false none zero = refl
    go false short true true = refl
    go false short true false = refl
    go false short false zero = refl

pub held_high : (w : ℕ) (holds : List Hold) (due room j past : ℕ) → past ≡ past_of w due j → (is_held (get_or holds j empty) && leb room past) ≡ not (held_low w holds due room j)
unfolding held_low implies
held_high w holds due room j past e = rw (e, leb_not room (past_of w due j)) (go (is_held (get_or holds j empty)) (ltb (past_of w due j) room))
  where
    go : (held low : Bool) → (held && not low) ≡ not (cond held low true)
    go true low = refl
    go false low = refl

-- Where room is the whole window, no place lies past it.
pub all_low : (w : ℕ) (holds : List Hold) (due room : ℕ) → w ≤ room → false ≡ not (all_below (held_low w holds due room) w)
unfolding held_low
all_low w holds due room l =
    ap not
    (sym (all_from (held_low w holds due room) w λ j u. imply _ _ λ t.
    let m : past_of w due j < w = mod-lt (j + (w - due % w)) (omega arith) in lt-ltb (past_of w due j) room (omega arith)))

-- THE PLACES, in their own order

-- place j, with what its number's distance from base or due says
abbrev pub mark_placed : ℕ → Receiver → ℕ → Bool
mark_placed w r j = mark_fits (get_or r.marks j 0) (past_of w r.base.0 j) (count_of w r.base.0 r.end.0)

abbrev pub kept_placed : Receiver → ℕ → Bool
kept_placed r j = hold_fits (get_or r.holds j empty) 0

abbrev low_placed : ℕ → Receiver → ℕ → Bool
low_placed w r = held_low w r.holds r.due.0 (count_of w r.due.0 past_highest)

marks_placed : (w : ℕ) (r : Receiver) → all_below (mark_ok w r) w ≡ all_below (mark_placed w r) w
unfolding mark_ok mark_fits
marks_placed w r = all_placed w r.base.0 (mark_ok w r) (mark_placed w r) λ i l. rw (past_below w r.base.0 r.end.0 i l) refl

holds_placed : (w : ℕ) (r : Receiver) → all_below (hold_ok w r) w ≡ every (all_below (kept_placed r) w ∷ all_below (low_placed w r) w ∷ [])
unfolding hold_ok hold_fits held_low every implies
holds_placed w r =
    all_placed w r.due.0 (hold_ok w r) (λ j. every (kept_placed r j ∷ low_placed w r j ∷ []))
    (λ i l. let h = hold_at w r (r.due.0 + i) in
    rw (full (r.due.0 + i), past_below w r.due.0 past_highest i l)
    (go (is_held h) (leb h.length place_size) (ltb (past_of w r.due.0 ((r.due.0 + i) % w)) (count_of w r.due.0 past_highest)) (every (zero_tests h))))
    ∙ all_both (kept_placed r) (low_placed w r) w
  where
    full : (n : ℕ) → leb n highest ≡ ltb n past_highest
    full n = leb_not n highest ∙ sym (ltb_not n past_highest)

    go : (held short low none : Bool) → cond held (cond short (cond low true false) false) none ≡ cond (cond held (cond short true false) none) (cond (cond held low true) true false) false
    go true true true none = refl
    go true true false none = refl
    go true false low none = refl
    go false short low true = refl
    go false short low false = refl

-- THE WHOLE RECORD

-- where end lies above base, the number before it is marked
abbrev end_stands : ℕ → Receiver → Bool
end_stands w r = implies (ltb r.base.0 r.end.0) (is_marked (mark_at w r (r.end.0 - 1)))

-- no place lies past the window
spare_marks : (w : ℕ) (r : Receiver) → all_below (spare_mark w r) w ≡ true
unfolding spare_mark
spare_marks w r = all_from (spare_mark w r) w (λ i l. sym (implies_else _ _ (lt-leb w i l)))

spare_holds : (w : ℕ) (r : Receiver) → all_below (spare_hold w r) w ≡ true
unfolding spare_hold
spare_holds w r = all_from (spare_hold w r) w (λ i l. sym (implies_else _ _ (lt-leb w i l)))

pub record Bounds (r : Receiver) : Type 0 where
  pub base_fits : r.base.0 ≤ past_highest
  pub due_fits : r.due.0 ≤ past_highest

module _ (r : Receiver) where
  abbrev bounds_of : List Bool
  bounds_of = bound_tests r.firstdata.0 r.firstchannel.0 r.base.0 r.end.0 r.due.0

  abbrev pub in_bounds : Bool
  in_bounds = bounds_fit r.firstdata.0 r.firstchannel.0 r.base.0 r.end.0 r.due.0

  pub bounds_told : (b : Bool) → b ≡ in_bounds → b ≡ true → Bounds r
  unfolding bounds_fit
  bounds_told b e h =
      let t : every bounds_of ≡ true = sym e ∙ h in
      record { base_fits = leb-true _ _ (every_at bounds_of t 3); due_fits = leb-true _ _ (every_at bounds_of t 7) }

module _ (w : ℕ) (r : Receiver) where
  pub bounds_fail : (b : Bool) → b ≡ in_bounds r → b ≡ false → false ≡ consistent_of w w r
  unfolding consistent_of
  bounds_fail b e h = every_fails (consistency_tests w w r) 2 (sym e ∙ h)

  pub base_fails : (at : ℕ) → at ≡ r.base.0 % w → get_or r.marks at 0 ≡ 1 → false ≡ consistent_of w w r
  unfolding consistent_of
  base_fails at a e =
      every_fails (consistency_tests w w r) 3 (ap not (eq-eqb (mark_at w r r.base.0) 1 (rw a at e)))

  pub end_fails : r.base.0 + w < r.end.0 → false ≡ consistent_of w w r
  unfolding consistent_of
  end_fails h = every_fails (consistency_tests w w r) 4 (lt-leb r.end.0 (r.base.0 + w) h)

  -- the flag that the loops raise, and what lies above the full range
  abbrev placed : List Bool
  placed = all_below (mark_placed w r) w ∷ all_below (kept_placed r) w ∷ []

  abbrev low : Bool
  low = all_below (low_placed w r) w

  abbrev held_tests : List Bool
  held_tests = all_below (kept_placed r) w ∷ low ∷ []

  pub places_fail : (flag : Bool) → flag ≡ not (every placed) → flag ≡ true → false ≡ consistent_of w w r
  unfolding consistent_of
  places_fail flag e t =
      sym
      (not_so _ λ h.
      clash flag t
      (e
      ∙ ap not
      (every_made _ _ (sym (marks_placed w r) ∙ every_at (consistency_tests w w r) h 6)
      (every_made _ _ (every_at held_tests (sym (holds_placed w r) ∙ every_at (consistency_tests w w r) h 7) 0) every_none))))

  pub beyond_fails : (high : Bool) → high ≡ not low → high ≡ true → false ≡ consistent_of w w r
  unfolding consistent_of
  beyond_fails high e t =
      sym (not_so _ λ h. clash high t (e ∙ ap not (every_at held_tests (sym (holds_placed w r) ∙ every_at (consistency_tests w w r) h 7) 1)))

  -- all but the number before end
  module _ (marks_sized : length r.marks ≡ w) (holds_sized : length r.holds ≡ w) (b : Bool) (bounds : b ≡ in_bounds r) (t : b ≡ true)
      (at : ℕ) (place : at ≡ r.base.0 % w) (base : get_or r.marks at 0 ≡ 1 → ⊥) (near : r.end.0 ≤ r.base.0 + w)
      (flag : Bool) (places : flag ≡ not (every placed)) (lowered : flag ≡ false) (high : Bool) (above : high ≡ not low) (none : high ≡ false) where
    decided : end_stands w r ≡ consistent_of w w r
    unfolding consistent_of
    decided =
        let each : every placed ≡ true = not-false _ (sym places ∙ lowered) in
        every_one (end_stands w r) _ (every_made _ _ (marks_placed w r ∙ every_at placed each 0) (every_made _ _ (holds_placed w r ∙ every_made _ _ (every_at placed each 1) (every_made _ _ (not-false _ (sym above ∙ none)) every_none)) (every_made _ _ (spare_marks w r) (every_made _ _ (spare_holds w r) every_none))))
        ∙ every_skip _ _ (le-leb r.end.0 (r.base.0 + w) near)
        ∙ every_skip _ _ (ap not (ne_eqb (mark_at w r r.base.0) 1 (rw place at base)))
        ∙ every_skip _ _ (sym bounds ∙ t)
        ∙ every_skip _ _ (eq-eqb (length r.holds) w holds_sized)
        ∙ every_skip _ _ (eq-eqb (length r.marks) w marks_sized)

    pub end_decides : (last : ℕ) → r.base.0 < r.end.0 → last ≡ (r.end.0 - 1) % w → eqb (get_or r.marks last 0) 1 ≡ consistent_of w w r
    end_decides last l e = rw e (implies_if _ _ (lt-ltb r.base.0 r.end.0 l)) ∙ decided

    pub end_low_lem : r.end.0 ≤ r.base.0 → true ≡ consistent_of w w r
    end_low_lem l = implies_else _ _ (le-ltb r.base.0 r.end.0 l) ∙ decided
