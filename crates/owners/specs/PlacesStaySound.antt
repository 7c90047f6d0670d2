-- Every call leaves every place that is in use sound if it was, each with the stores that are kept for it: by the endpoint's `StaysSound`. Any token and any number, refused
-- or not. A list of forty stays one, and a call touches no place but its own, so that none are joined or swapped, though two may bear one token.
use Rattle.std.specs.Prelude.{ℕ, zero, suc, ◌+◌, ◌≤◌, ◌<◌, List, [], ◌∷◌, ◌≡◌, refl, length, get_or, set}
use Rattle.std.proofs.Common.{⊎_elim, sym, ◌∙◌, ap, subst, length-set, arith, le-ltb}
use Rattle.window.specs.Store.{store_size}
use Rattle.endpoint.specs.Open.{opened_of}
use Rattle.endpoint.specs.Calls.{calls_of}
use Rattle.endpoint.specs.Sound.{Sound}
use Rattle.endpoint.specs.StaysSound.{call_keeps, reached_sound}
use Rattle.session.specs.declared.Session.{Session}
use Rattle.session.specs.Place.{blank, blank_token, places, place_of, place_answer}
use Rattle.session.specs.Call.{Stores, no_stores, lent_of, kept_of, endpoint_of, Asked, calls, closes, lends_for, Made, done_of, made_of, made_refused, made_done}
use Rattle.session.specs.Open.{Opening, opened_for}
use Rattle.session.specs.List.{outcome_of, list_of, lowest_of, opening_at, open_list_of}
use Rattle.owners.specs.Seeing.{set_same, kept_lent, by_answer, opening_ways}
use Rattle.owners.specs.Histories.{call_by, call_list, call_stores, open_stores}
use Rattle.owners.specs.SessionsAreEndpoints.{call_leaves, opened_endpoint, opened_answer}

-- ---- places

pub call_length : (l : List Session) (number token : ℕ) (store : List ℕ) (q : Asked) → length (list_of l number token store q) ≡ length l
call_length l number token store q = length-set l (place_of number) (outcome_of l number token store q).session

pub open_length : (l : List Session) (token a b t : ℕ) → length (open_list_of l token a b t) ≡ length l
open_length l token a b t = length-set l (lowest_of l) (opening_at l token a b t).session

elsewhere : (l : List Session) (i j : ℕ) (s : Session) → (i ≡ j → ⊥) → get_or (set l i s) j blank ≡ get_or l j blank
elsewhere [] i j s h = refl
elsewhere (x ∷ l) zero zero s h = absurd (h refl)
elsewhere (x ∷ l) zero (suc j) s h = refl
elsewhere (x ∷ l) (suc i) zero s h = refl
elsewhere (x ∷ l) (suc i) (suc j) s h = elsewhere l i j s (λ e. h (ap suc e))

pub call_elsewhere : (l : List Session) (number token : ℕ) (store : List ℕ) (q : Asked) (j : ℕ) → (place_of number ≡ j → ⊥)
    → get_or (list_of l number token store q) j blank ≡ get_or l j blank
call_elsewhere l number token store q j h = elsewhere l (place_of number) j (outcome_of l number token store q).session h

pub open_elsewhere : (l : List Session) (token a b t j : ℕ) → (lowest_of l ≡ j → ⊥) → get_or (open_list_of l token a b t) j blank ≡ get_or l j blank
open_elsewhere l token a b t j h = elsewhere l (lowest_of l) j (opening_at l token a b t).session h

-- ---- soundness

-- a session that is in use is sound with its stores; every place of a list
unfoldable pub InUseSound : Session → Stores → Type 0
InUseSound s x = (s.token ≡ 0 → ⊥) → Sound 32 32 (endpoint_of s x)

unfoldable pub AllSound : List Session → List Stores → Type 0
AllSound l st = (i : ℕ) → InUseSound (get_or l i blank) (get_or st i no_stores)

-- the owner's own call
done_sound : (s : Session) (x : Stores) (q : Asked) → InUseSound s x → InUseSound (done_of s (lent_of (lends_for q) x) q).session (kept_of (lends_for q) x (done_of s (lent_of (lends_for q) x) q).store)
unfolding done_of InUseSound
done_sound s x (calls c) h u = subst (Sound 32 32) (sym (call_leaves s x c)) (call_keeps 32 32 (omega arith) (omega arith) (endpoint_of s x) (h u) c)
done_sound s x closes h u = absurd (u blank_token)

-- any call on the place
made_sound : (count number T : ℕ) (s : Session) (x : Stores) (q : Asked) → InUseSound s x
    → InUseSound (made_of count number T s (lent_of (lends_for q) x) q).session (kept_of (lends_for q) x (made_of count number T s (lent_of (lends_for q) x) q).store)
made_sound count number T s x q h =
    by_answer (Sounds (made_of count number T s (lent_of (lends_for q) x) q)) (place_answer count number T s.token)
    (λ z. subst Sounds (sym (made_done count number T s (lent_of (lends_for q) x) q z)) (done_sound s x q h))
    (λ z. subst Sounds (sym (made_refused count number T s (lent_of (lends_for q) x) q z)) (subst (InUseSound s) (sym (kept_lent (lends_for q) x)) h))
  where
    Sounds : Made → Type 0
    Sounds m = InUseSound m.session (kept_of (lends_for q) x m.store)

-- one place and its stores set to what is sound
put_sound : (l : List Session) (st : List Stores) → length st ≡ length l → AllSound l st → (i : ℕ) (s : Session) (x : Stores) → InUseSound s x → AllSound (set l i s) (set st i x)
unfolding AllSound
put_sound [] [] n h i s x u j = h j
put_sound [] (y ∷ st) n h i s x u j = absurd (omega arith)
put_sound (z ∷ l) [] n h i s x u j = absurd (omega arith)
put_sound (z ∷ l) (y ∷ st) n h zero s x u zero = u
put_sound (z ∷ l) (y ∷ st) n h zero s x u (suc j) = h (suc j)
put_sound (z ∷ l) (y ∷ st) n h (suc i) s x u zero = h zero
put_sound (z ∷ l) (y ∷ st) n h (suc i) s x u (suc j) = put_sound l st (omega arith) (λ k. h (suc k)) i s x u j

-- a call by number and token, with the stores that are kept for the number
pub calls_keep_places : (l : List Session) (st : List Stores) → length st ≡ length l → AllSound l st → (T number : ℕ) (q : Asked)
    → AllSound (call_list T l st number q) (call_stores st number q (call_by T l st number q).store)
unfolding AllSound
calls_keep_places l st n h T number q =
    put_sound l st n h (place_of number) (call_by T l st number q).session (kept_of (lends_for q) (get_or st (place_of number) no_stores) (call_by T l st number q).store)
    (made_sound (length l) number T (get_or l (place_of number) blank) (get_or st (place_of number) no_stores) q (h (place_of number)))

-- ---- opening

opened_sound : (T a b t : ℕ) (x : Stores) → (opened_of 32 a b t).answer ≡ 0 → length x.received ≡ store_size 32 → length x.sent ≡ store_size 32 → InUseSound (opened_for T a b t) x
unfolding InUseSound calls_of
opened_sound T a b t x z r s u =
    subst (Sound 32 32) (sym (opened_endpoint T a b t x))
    (reached_sound 32 32 (omega arith) (omega arith) a b t x.received x.sent (sym (opened_answer a b t) ∙ z) r s [])

stores_past : (l : List Stores) (i : ℕ) (x : Stores) → length l ≤ i → set l i x ≡ l
stores_past [] i x h = refl
stores_past (y ∷ l) zero x h = absurd (omega arith)
stores_past (y ∷ l) (suc i) x h = ap (λ (m : List Stores). y ∷ m) (stores_past l i x (omega arith))

-- the place of the number given, and of 0, which is given where opening is refused
place_given : (at : ℕ) → at < places → place_of (at + 1) ≡ at
unfolding place_of
place_given at h = rw (le-ltb (at + 1) 1 (omega arith), le-ltb places (at + 1) (omega arith)) (omega arith)

place_none : place_of 0 ≡ places
unfolding place_of
place_none = refl

-- an opening, with stores of the right length for the number that is given
pub opens_keep_places : (l : List Session) (st : List Stores) → length l ≡ places → length st ≡ places → AllSound l st → (T a b t : ℕ) (given : Stores)
    → length given.received ≡ store_size 32 → length given.sent ≡ store_size 32 → AllSound (open_list_of l T a b t) (open_stores st (opening_at l T a b t).number given)
opens_keep_places l st n m h T a b t given r s =
    ⊎_elim {C = AllSound (open_list_of l T a b t) (open_stores st (opening_at l T a b t).number given)}
    (λ e. let kept : open_list_of l T a b t ≡ l = ap (set l (lowest_of l)) e.0 ∙ set_same l (lowest_of l) blank in
    let same : open_stores st (opening_at l T a b t).number given ≡ st =
    ap (λ (k : ℕ). set st (place_of k) given) e.1 ∙ ap (λ (k : ℕ). set st k given) place_none ∙ stores_past st places given (omega arith) in
    rw (kept, same) h)
    (λ e. let place : place_of (opening_at l T a b t).number ≡ lowest_of l = ap (λ (o : Opening). place_of o.number) e.2 ∙ place_given (lowest_of l) e.0 in
    let made : (opening_at l T a b t).session ≡ opened_for T a b t = ap (λ (o : Opening). o.session) e.2 in
    rw (place, made) (put_sound l st (m ∙ sym n) h (lowest_of l) (opened_for T a b t) given (opened_sound T a b t given e.1 r s)))
    (opening_ways (length l) (lowest_of l) T (get_or l (lowest_of l) blank) a b t)
