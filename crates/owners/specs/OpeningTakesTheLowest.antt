-- "Opening takes the lowest free number"; "A closed place is used again, and 25 is given only if none is free".
use Rattle.std.specs.Prelude.{ℕ, zero, suc, ◌+◌, ◌≤◌, ◌<◌, Bool, true, false, cond, List, [], ◌∷◌, ◌≡◌, refl, length, get_or, set, leb, ltb}
use Rattle.std.proofs.Common.{⊎_elim, sym, ◌∙◌, ap, arith, eq-eqb, leb-true, leb-false}
use Rattle.common.specs.Order.{first}
use Rattle.numbers.specs.Full.{highest_first}
use Rattle.sender.specs.Record.{shortest_timeout, longest_timeout}
use Rattle.endpoint.specs.Open.{open_answer, opened_of}
use Rattle.session.specs.declared.Session.{Session}
use Rattle.session.specs.Place.{blank, blank_token, places, place_of, place_answer}
use Rattle.session.specs.Call.{closes, Made, done_of, made_done}
use Rattle.session.specs.Open.{Opening, opened_for, opening_of}
use Rattle.session.specs.List.{list_of, lowest_of, opening_at, open_list_of}
use Rattle.session.specs.Lowest.{lowest_within, lowest_found, lowest_free}
use Rattle.owners.specs.Seeing.{by_answer, opening_ways, opening_full, opening_done, opening_refused}
use Rattle.owners.specs.SessionsAreEndpoints.{opened_answer}

-- a place below the lowest free one has an owner
below_in_use : (l : List Session) (i : ℕ) → i < lowest_of l → i < length l → (get_or l i blank).token ≡ 0 → ⊥
below_in_use l i u v z =
    let w : lowest_of l ≤ i = lowest_found l i blank v (eq-eqb (get_or l i blank).token 0 z) in omega arith

set_here : (l : List Session) (i : ℕ) (s : Session) → i < length l → get_or (set l i s) i blank ≡ s
set_here [] i s u = absurd (omega arith)
set_here (x ∷ xs) zero s u = refl
set_here (x ∷ xs) (suc i) s u = set_here xs i s (omega arith)

-- an accepted opening: the number is that of the lowest free place, every lower number has an owner, and a fresh endpoint with the caller's token stands there
pub opened_lowest : (l : List Session) (T a b t : ℕ) → length l ≡ places → (opening_at l T a b t).answer ≡ 0
    → ((opening_at l T a b t).number ≡ lowest_of l + 1) × (lowest_of l < places) × ((get_or l (lowest_of l) blank).token ≡ 0)
    × ((i : ℕ) → i < lowest_of l → (get_or l i blank).token ≡ 0 → ⊥) × (get_or (open_list_of l T a b t) (lowest_of l) blank ≡ opened_for T a b t)
opened_lowest l T a b t n z =
    ⊎_elim {C = ((opening_at l T a b t).number ≡ lowest_of l + 1) × (lowest_of l < places) × ((get_or l (lowest_of l) blank).token ≡ 0)
    × ((i : ℕ) → i < lowest_of l → (get_or l i blank).token ≡ 0 → ⊥) × (get_or (open_list_of l T a b t) (lowest_of l) blank ≡ opened_for T a b t)}
    (λ e. absurd (e.2 z))
    (λ e. (
      ap (λ (o : Opening). o.number) e.2,
      e.0,
      lowest_free l,
      λ i u. below_in_use l i u (omega (arith, lowest_within l)),
      set_here l (lowest_of l) (opening_at l T a b t).session (omega (arith, e.0)) ∙ ap (λ (o : Opening). o.session) e.2,
    ))
    (opening_ways (length l) (lowest_of l) T (get_or l (lowest_of l) blank) a b t)

-- the endpoint's own refusal of an opening is not 25
endpoint_not_full : (a b t : ℕ) → (opened_of 32 a b t).answer ≡ 25 → ⊥
unfolding open_answer first
endpoint_not_full a b t e = go (ltb highest_first a) (ltb highest_first b) (ltb t shortest_timeout) (ltb longest_timeout t) (sym (opened_answer a b t) ∙ e)
  where
    go : (p q r s : Bool) → ◌≡◌ {A = ℕ} (cond p 15 (cond q 15 (cond r 15 (cond s 15 0)))) 25 → ⊥
    go true q r s x = omega arith
    go false true r s x = omega arith
    go false false true s x = omega arith
    go false false false true x = omega arith
    go false false false false x = omega arith

-- 25 exactly if every place has an owner
module _ (l : List Session) (T : ℕ) (h : T ≡ 0 → ⊥) (a b t : ℕ) (n : length l ≡ places) where
  abbrev old : Session
  old = get_or l (lowest_of l) blank

  at_forty : opening_at l T a b t ≡ opening_of places (lowest_of l) T old a b t
  at_forty = ap (λ (k : ℕ). opening_of k (lowest_of l) T old a b t) n

  not_full : lowest_of l < places → (opening_at l T a b t).answer ≡ 25 → ⊥
  not_full u e =
      by_answer ⊥ (opened_of 32 a b t).answer
      (λ z. let x : ◌≡◌ {A = ℕ} 0 25 = sym (ap (λ (o : Opening). o.answer) (at_forty ∙ opening_done T h (lowest_of l) old a b t u z)) ∙ e in omega arith)
      (λ z. endpoint_not_full a b t (sym (ap (λ (o : Opening). o.answer) (at_forty ∙ opening_refused T h (lowest_of l) old a b t u z)) ∙ e))

  pub full_then : (opening_at l T a b t).answer ≡ 25 → (i : ℕ) → i < places → (get_or l i blank).token ≡ 0 → ⊥
  full_then e i u z = go (leb places (lowest_of l)) refl
    where
      go : (f : Bool) → leb places (lowest_of l) ≡ f → ⊥
      go true x = below_in_use l i (omega (arith, leb-true places (lowest_of l) x)) (omega arith) z
      go false x = not_full (leb-false places (lowest_of l) x) e

  pub then_full : ((i : ℕ) → i < places → (get_or l i blank).token ≡ 0 → ⊥) → (opening_at l T a b t).answer ≡ 25
  then_full f = go (leb places (lowest_of l)) refl
    where
      go : (x : Bool) → leb places (lowest_of l) ≡ x → (opening_at l T a b t).answer ≡ 25
      go true x = ap (λ (o : Opening). o.answer) (at_forty ∙ opening_full T h (lowest_of l) old a b t (leb-true places (lowest_of l) x))
      go false x = absurd (f (lowest_of l) (leb-false places (lowest_of l) x) (lowest_free l))

-- ---- closing

-- what stands at a place after blank is put there, within the list and past its end
set_blank : (l : List Session) (i : ℕ) → get_or (set l i blank) i blank ≡ blank
set_blank [] i = refl
set_blank (x ∷ xs) zero = refl
set_blank (x ∷ xs) (suc i) = set_blank xs i

-- an owner's closing leaves its place zero throughout
pub closed_is_blank : (l : List Session) (number T : ℕ) → place_answer (length l) number T (get_or l (place_of number) blank).token ≡ 0
    → get_or (list_of l number T [] closes) (place_of number) blank ≡ blank
unfolding done_of
closed_is_blank l number T z =
    ap (λ (m : Made). get_or (set l (place_of number) m.session) (place_of number) blank) (made_done (length l) number T (get_or l (place_of number) blank) [] closes z)
    ∙ set_blank l (place_of number)

-- so it is used again: the next opening takes it, or a lower one
pub closed_is_free : (l : List Session) (number T : ℕ) → place_answer (length l) number T (get_or l (place_of number) blank).token ≡ 0
    → place_of number < length (list_of l number T [] closes) → lowest_of (list_of l number T [] closes) ≤ place_of number
closed_is_free l number T z u =
    lowest_found (list_of l number T [] closes) (place_of number) blank u
    (eq-eqb (get_or (list_of l number T [] closes) (place_of number) blank).token 0 (ap (λ (s : Session). s.token) (closed_is_blank l number T z) ∙ blank_token))
