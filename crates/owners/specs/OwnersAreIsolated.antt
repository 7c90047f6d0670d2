-- "Opening takes the lowest free number, so the numbers given, and 25, depend on all; beyond that, no call with another token changes a session's record or any answer to
-- its owner." Of an owner's token T that is not 0, where view T l is what the owner has in the list:
--   frame, frame-open: a call with another token, of 0 too, on any list and with any arguments, refused or not, closing included, leaves view T as it was;
--   answers: the reply to a call with token T and view T after it are functions of the call's arguments, of how long the list is, and of view T before it;
--   opens: so are those of an opening, given also the lowest free place;
--   opens-refused, opens-no-one: where the endpoint refuses it (15), or the token is 0 (24), nothing shows of which place was free.
-- Over the definitions that the contracts cite; of the endpoint's nothing is used but that they are functions of their arguments.
use Rattle.std.specs.Prelude.{ℕ, ◌<◌, List, ◌≡◌, length, get_or, set}
use Rattle.std.proofs.Common.{⊎_elim, sym, ◌∙◌, ap}
use Rattle.endpoint.specs.Open.{opened_of}
use Rattle.session.specs.declared.Session.{Session}
use Rattle.session.specs.Place.{blank, places, place_of}
use Rattle.session.specs.Call.{Asked, made_of}
use Rattle.session.specs.Open.{Opening, opening_of, refused_opening}
use Rattle.session.specs.List.{outcome_of, list_of, lowest_of, opening_at, open_list_of}
use Rattle.session.specs.Lowest.{lowest_free}
use Rattle.session.specs.Shapes.{granted_by}
use Rattle.owners.specs.View.{view, seen, hidden, seen_other, seen_blank, hidden_get, hidden_set, hidden_length, hidden_again, view_sees, sees_view}
use Rattle.owners.specs.Seeing.{reply_of, set_same, made_other, reply_seen, left_seen, opening_token, opening_refused, opening_no_one, opening_granted, opening_left}

module _ (T : ℕ) (h : T ≡ 0 → ⊥) where
  -- what T sees at a place is put back: T sees the list as before
  put_back : (l : List Session) (i : ℕ) (s : Session) → seen T s ≡ seen T (get_or l i blank) → hidden T (set l i s) ≡ hidden T l
  put_back l i s e = hidden_set T l i s ∙ ap (set (hidden T l) i) (e ∙ sym (hidden_get T l i)) ∙ set_same (hidden T l) i blank

  -- the lowest free place is not T's
  free_other : (l : List Session) → (get_or l (lowest_of l) blank).token ≡ T → ⊥
  free_other l z = h (sym z ∙ lowest_free l)

  -- ---- frame
  pub frame_sees : (l : List Session) (number U : ℕ) (store : List ℕ) (q : Asked) → (U ≡ T → ⊥) → hidden T (list_of l number U store q) ≡ hidden T l
  frame_sees l number U store q n =
      put_back l (place_of number) (outcome_of l number U store q).session (made_other T h (length l) number U (get_or l (place_of number) blank) store q n)

  pub frame : (l : List Session) (number U : ℕ) (store : List ℕ) (q : Asked) → (U ≡ T → ⊥) → view T (list_of l number U store q) ≡ view T l
  frame l number U store q n = sees_view T h (list_of l number U store q) l (frame_sees l number U store q n)

  pub frame_open_sees : (l : List Session) (U a b t : ℕ) → (U ≡ T → ⊥) → hidden T (open_list_of l U a b t) ≡ hidden T l
  frame_open_sees l U a b t n =
      put_back l (lowest_of l) (opening_at l U a b t).session
      (⊎_elim {C = seen T (opening_at l U a b t).session ≡ seen T (get_or l (lowest_of l) blank)} (λ e. ap (seen T) e)
      (λ e. seen_other T (opening_at l U a b t).session (λ z. n (sym e ∙ z)) ∙ sym (seen_other T (get_or l (lowest_of l) blank) (free_other l)))
      (opening_token (length l) (lowest_of l) U (get_or l (lowest_of l) blank) a b t))

  pub frame_open : (l : List Session) (U a b t : ℕ) → (U ≡ T → ⊥) → view T (open_list_of l U a b t) ≡ view T l
  frame_open l U a b t n = sees_view T h (open_list_of l U a b t) l (frame_open_sees l U a b t n)

  -- ---- answers: as if every other place were blank
  pub answers_alone : (l : List Session) (number : ℕ) (store : List ℕ) (q : Asked) → reply_of (outcome_of l number T store q) ≡ reply_of (outcome_of (hidden T l) number T store q)
  answers_alone l number store q =
      reply_seen T h (length l) number (get_or l (place_of number) blank) store q
      ∙ ap (λ (s : Session). reply_of (made_of (length l) number T s store q)) (sym (hidden_get T l (place_of number)))
      ∙ ap (λ (k : ℕ). reply_of (made_of k number T (get_or (hidden T l) (place_of number) blank) store q)) (sym (hidden_length T l))

  pub leaves_alone : (l : List Session) (number : ℕ) (store : List ℕ) (q : Asked) → hidden T (list_of l number T store q) ≡ hidden T (list_of (hidden T l) number T store q)
  leaves_alone l number store q =
      hidden_set T l (place_of number) (outcome_of l number T store q).session
      ∙ ap (set (hidden T l) (place_of number))
      (left_seen T h (length l) number (get_or l (place_of number) blank) store q
      ∙ ap (λ (s : Session). seen T (made_of (length l) number T s store q).session) (sym (hidden_get T l (place_of number)))
      ∙ ap (λ (k : ℕ). seen T (made_of k number T (get_or (hidden T l) (place_of number) blank) store q).session) (sym (hidden_length T l)))
      ∙ ap (λ (x : List Session). set x (place_of number) (seen T (outcome_of (hidden T l) number T store q).session)) (sym (hidden_again T h l))
      ∙ sym (hidden_set T (hidden T l) (place_of number) (outcome_of (hidden T l) number T store q).session)

  pub answers : (l m : List Session) → length l ≡ length m → view T l ≡ view T m → (number : ℕ) (store : List ℕ) (q : Asked)
      → (reply_of (outcome_of l number T store q) ≡ reply_of (outcome_of m number T store q)) × (view T (list_of l number T store q) ≡ view T (list_of m number T store q))
  answers l m n e number store q =
      let x : hidden T l ≡ hidden T m = view_sees T h l m n e in (
        answers_alone l number store q ∙ ap (λ (y : List Session). reply_of (outcome_of y number T store q)) x ∙ sym (answers_alone m number store q),
        sees_view T h (list_of l number T store q) (list_of m number T store q)
            (leaves_alone l number store q ∙ ap (λ (y : List Session). hidden T (list_of y number T store q)) x ∙ sym (leaves_alone m number store q)),
      )

  -- ---- opening: the same, given the lowest free place
  pub opens : (l m : List Session) → length l ≡ length m → view T l ≡ view T m → lowest_of l ≡ lowest_of m → (a b t : ℕ)
      → (granted_by (opening_at l T a b t) ≡ granted_by (opening_at m T a b t)) × (view T (open_list_of l T a b t) ≡ view T (open_list_of m T a b t))
  opens l m n e f a b t = (
    granted_alike l ∙ ap (λ (k : ℕ). granted_by (opening_of k (lowest_of l) T blank a b t)) n ∙ ap (λ (k : ℕ). granted_by (opening_of (length m) k T blank a b t)) f
        ∙ sym (granted_alike m),
    sees_view T h (open_list_of l T a b t) (open_list_of m T a b t)
        (left_alike l
        ∙ ap (λ (k : ℕ). set (hidden T l) (lowest_of l) (seen T (opening_of k (lowest_of l) T blank a b t).session)) n
        ∙ ap (λ (k : ℕ). set (hidden T l) k (seen T (opening_of (length m) k T blank a b t).session)) f
        ∙ ap (λ (x : List Session). set x (lowest_of m) (seen T (opening_of (length m) (lowest_of m) T blank a b t).session)) (view_sees T h l m n e)
        ∙ sym (left_alike m)),
  )
    where
      granted_alike : (x : List Session) → granted_by (opening_at x T a b t) ≡ granted_by (opening_of (length x) (lowest_of x) T blank a b t)
      granted_alike x = opening_granted (length x) (lowest_of x) T (get_or x (lowest_of x) blank) blank a b t

      left_alike : (x : List Session) → hidden T (open_list_of x T a b t) ≡ set (hidden T x) (lowest_of x) (seen T (opening_of (length x) (lowest_of x) T blank a b t).session)
      left_alike x =
          hidden_set T x (lowest_of x) (opening_at x T a b t).session
          ∙ ap (set (hidden T x) (lowest_of x))
          (opening_left (length x) (lowest_of x) T (get_or x (lowest_of x) blank) blank a b t T (seen_other T (get_or x (lowest_of x) blank) (free_other x) ∙ sym (seen_blank T)))

  -- refused by the endpoint, with 15: both lists as they were
  pub opens_refused : (l m : List Session) → length l ≡ places → length m ≡ places → lowest_of l < places → lowest_of m < places → (a b t : ℕ)
      → ((opened_of 32 a b t).answer ≡ 0 → ⊥)
      → (granted_by (opening_at l T a b t) ≡ granted_by (opening_at m T a b t)) × (open_list_of l T a b t ≡ l) × (open_list_of m T a b t ≡ m)
  opens_refused l m n k u v a b t z = (ap granted_by (way l n u) ∙ sym (ap granted_by (way m k v)), same l n u, same m k v)
    where
      way : (x : List Session) → length x ≡ places → lowest_of x < places → opening_at x T a b t ≡ refused_opening (opened_of 32 a b t).answer (get_or x (lowest_of x) blank)
      way x n u = ap (λ (k : ℕ). opening_of k (lowest_of x) T (get_or x (lowest_of x) blank) a b t) n ∙ opening_refused T h (lowest_of x) (get_or x (lowest_of x) blank) a b t u z

      same : (x : List Session) → length x ≡ places → lowest_of x < places → open_list_of x T a b t ≡ x
      same x n u = ap (λ (o : Opening). set x (lowest_of x) o.session) (way x n u) ∙ set_same x (lowest_of x) blank

-- refused with 24: a token of 0, whether a place is free or not
pub opens_no_one : (l : List Session) → length l ≡ places → (a b t : ℕ) → (granted_by (opening_at l 0 a b t) ≡ record { answer = 24; number = 0 }) × (open_list_of l 0 a b t ≡ l)
opens_no_one l n a b t = (ap granted_by way, ap (λ (o : Opening). set l (lowest_of l) o.session) way ∙ set_same l (lowest_of l) blank)
  where
    way : opening_at l 0 a b t ≡ refused_opening 24 (get_or l (lowest_of l) blank)
    way = ap (λ (k : ℕ). opening_of k (lowest_of l) 0 (get_or l (lowest_of l) blank) a b t) n ∙ opening_no_one (lowest_of l) (get_or l (lowest_of l) blank) a b t
