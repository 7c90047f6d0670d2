-- A call, and an opening, as an owner T sees what they leave. Of the endpoint's definitions nothing is known here but that they are functions of their arguments.
use Rattle.std.specs.Prelude.{ℕ, zero, suc, ◌+◌, ◌≤◌, ◌<◌, Bool, cond, not, List, [], ◌∷◌, ◌⊎◌, ◌≡◌, get_or, set, eqb, ltb, leb}
use Rattle.std.proofs.Math.Bool.{true, false}
use Rattle.std.proofs.Common.{inl, inr, ⊎_elim, sym, ◌∙◌, ap, arith}
use Rattle.std.proofs.Math.Path.{refl}
use borrow.Author.Tests.{eq-eqb, ne_eqb, eqb-true, eqb-false, le-leb, lt-leb, leb-false}
use Rattle.common.specs.Order.{first}
use Rattle.endpoint.specs.Open.{opened_of}
use Rattle.session.specs.declared.Session.{Session}
use Rattle.session.specs.Place.{blank, blank_token, places, place_answer}
use Rattle.session.specs.Call.{Stores, Lends, the_receivers, the_senders, neither, lent_of, kept_of, Asked, calls, closes, Made, done_of, refused_by, made_of, made_refused, made_done}
use Rattle.session.specs.Open.{Opening, open_answer, refused_opening, opened_for, opening_of}
use Rattle.session.specs.Shapes.{granted_by}
use Rattle.owners.specs.View.{seen, seen_own, seen_other, seen_blank, blank_other}

-- what a call gives its caller: the number, what it writes, how many were lost, and the lent store
pub record Reply : Type 0 where
  pub answer : ℕ
  pub bytes : List ℕ
  pub lost : ℕ
  pub store : List ℕ

abbrev pub reply_of : Made → Reply
reply_of m = record { answer = m.answer; bytes = m.bytes; lost = m.lost; store = m.store }

-- putting back what stands at a place changes nothing, within the list and past its end
pub set_same : {A : Type 0} (l : List A) (i : ℕ) (d : A) → set l i (get_or l i d) ≡ l
set_same [] i d = refl
set_same (x ∷ xs) zero d = refl
set_same {A} (x ∷ xs) (suc i) d = ap (λ (t : List A). x ∷ t) (set_same xs i d)

-- a store that comes back as it was lent changes nothing either
pub kept_lent : (k : Lends) (x : Stores) → kept_of k x (lent_of k x) ≡ x
kept_lent the_receivers x = refl
kept_lent the_senders x = refl
kept_lent neither x = refl

-- ---- who is refused

-- not refused before all else: the session is the caller's
pub answer_owner : (count number token owner : ℕ) → place_answer count number token owner ≡ 0 → owner ≡ token
unfolding place_answer first
answer_owner count number token owner = go (not (eqb count places)) (ltb number 1) (ltb places number) (eqb token 0) (eqb owner token) refl
  where
    go : (a b c d e : Bool) → eqb owner token ≡ e → ◌≡◌ {A = ℕ} (cond a 13 (cond b 23 (cond c 23 (cond d 24 (cond (not e) 24 0))))) 0 → owner ≡ token
    go true b c d e q z = absurd (omega arith)
    go false true c d e q z = absurd (omega arith)
    go false false true d e q z = absurd (omega arith)
    go false false false true e q z = absurd (omega arith)
    go false false false false false q z = absurd (omega arith)
    go false false false false true q z = eqb-true owner token q

-- "A wrong token and a free place get the same refusal": whoever owns the place, if it is not the caller
pub answer_alike : (count number token owner other : ℕ) → (owner ≡ token → ⊥) → (other ≡ token → ⊥) → place_answer count number token owner ≡ place_answer count number token other
unfolding place_answer first
answer_alike count number token owner other h k = rw (ne_eqb owner token h, ne_eqb other token k) refl

-- either of the two ways
pub by_answer : (P : Type 0) (n : ℕ) → (n ≡ 0 → P) → ((n ≡ 0 → ⊥) → P) → P
by_answer P n f g = go (eqb n 0) refl
  where
    go : (b : Bool) → eqb n 0 ≡ b → P
    go true e = f (eqb-true n 0 e)
    go false e = g (eqb-false n 0 e)

-- what an owner's call leaves is the owner's, or free
pub done_token : (s : Session) (store : List ℕ) (q : Asked) → ((done_of s store q).session.token ≡ s.token) ⊎ ((done_of s store q).session.token ≡ 0)
unfolding done_of
done_token s store (calls c) = inl refl
done_token s store closes = inr blank_token

module _ (T : ℕ) (h : T ≡ 0 → ⊥) where
  -- ---- a call by someone else
  pub made_other : (count number U : ℕ) (old : Session) (store : List ℕ) (q : Asked) → (U ≡ T → ⊥) → seen T (made_of count number U old store q).session ≡ seen T old
  made_other count number U old store q n =
      by_answer (seen T (made_of count number U old store q).session ≡ seen T old) (place_answer count number U old.token)
      (λ z. let o : old.token ≡ U = answer_owner count number U old.token z in
      ap (λ (m : Made). seen T m.session) (made_done count number U old store q z)
      ∙ seen_other T (done_of old store q).session (⊎_elim {C = (done_of old store q).session.token ≡ T → ⊥} (λ e x. n (sym o ∙ sym e ∙ x)) (λ e x. h (sym x ∙ e)) (done_token old store q))
      ∙ sym (seen_other T old (λ x. n (sym o ∙ x))))
      (λ z. ap (λ (m : Made). seen T m.session) (made_refused count number U old store q z))

  -- ---- a call of T's own
  own_case : (P : Session → Type 0) (old : Session) → P old → ((old.token ≡ T → ⊥) → P blank) → P (seen T old)
  own_case P old p q = go (eqb old.token T) refl
    where
      go : (b : Bool) → eqb old.token T ≡ b → P (seen T old)
      go true e = rw (seen_own T old (eqb-true old.token T e)) p
      go false e = rw (seen_other T old (eqb-false old.token T e)) (q (eqb-false old.token T e))

  refused_other : (count number : ℕ) (old : Session) (store : List ℕ) (q : Asked) → (old.token ≡ T → ⊥)
      → made_of count number T old store q ≡ refused_by (place_answer count number T old.token) old store
  refused_other count number old store q n = made_refused count number T old store q (λ z. n (answer_owner count number T old.token z))

  -- its reply depends on no more than T sees at the place
  pub reply_seen : (count number : ℕ) (old : Session) (store : List ℕ) (q : Asked) → reply_of (made_of count number T old store q) ≡ reply_of (made_of count number T (seen T old) store q)
  reply_seen count number old store q =
      own_case (λ s. reply_of (made_of count number T old store q) ≡ reply_of (made_of count number T s store q)) old refl
      (λ n. ap reply_of (refused_other count number old store q n)
      ∙ ap (λ (a : ℕ). record { answer = a; bytes = []; lost = 0; store = store }) (answer_alike count number T old.token blank.token n (blank_other T h))
      ∙ sym (ap reply_of (refused_other count number blank store q (blank_other T h))))

  -- and so does what T sees there afterwards
  pub left_seen : (count number : ℕ) (old : Session) (store : List ℕ) (q : Asked) → seen T (made_of count number T old store q).session ≡ seen T (made_of count number T (seen T old) store q).session
  left_seen count number old store q =
      own_case (λ s. seen T (made_of count number T old store q).session ≡ seen T (made_of count number T s store q).session) old refl
      (λ n. ap (λ (m : Made). seen T m.session) (refused_other count number old store q n) ∙ seen_other T old n ∙ sym (seen_blank T)
      ∙ sym (ap (λ (m : Made). seen T m.session) (refused_other count number blank store q (blank_other T h))))

-- ---- opening

-- refused, nothing changes and no number is given; else the place was among the forty and the endpoint accepted
pub opening_ways : (count at U : ℕ) (old : Session) (a b t : ℕ)
    → (((opening_of count at U old a b t).session ≡ old) × ((opening_of count at U old a b t).number ≡ 0) × ((opening_of count at U old a b t).answer ≡ 0 → ⊥))
    ⊎ ((at < places) × ((opened_of 32 a b t).answer ≡ 0) × (opening_of count at U old a b t ≡ record { answer = 0; number = at + 1; session = opened_for U a b t }))
unfolding opening_of open_answer first
opening_ways count at U old a b t =
    go (eqb count places) (eqb U 0) (leb places at) refl (eqb (opened_of 32 a b t).answer 0) refl
  where
    done : Opening
    done = record { answer = 0; number = at + 1; session = opened_for U a b t }

    answer : Bool → Bool → Bool → ℕ
    answer c p q = cond (not c) 13 (cond p 24 (cond q 25 0))

    ways : Bool → Bool → Bool → Bool → Opening
    ways c p q z = cond (not (eqb (answer c p q) 0)) (refused_opening (answer c p q) old) (cond (not z) (refused_opening (opened_of 32 a b t).answer old) done)

    go : (c p q : Bool) → leb places at ≡ q → (z : Bool) → eqb (opened_of 32 a b t).answer 0 ≡ z
        → (((ways c p q z).session ≡ old) × ((ways c p q z).number ≡ 0) × ((ways c p q z).answer ≡ 0 → ⊥)) ⊎ ((at < places) × ((opened_of 32 a b t).answer ≡ 0) × (ways c p q z ≡ done))
    go false p q e z f = inl (refl, refl, λ x. omega arith)
    go true true q e z f = inl (refl, refl, λ x. omega arith)
    go true false true e z f = inl (refl, refl, λ x. omega arith)
    go true false false e true f = inr (leb-false places at e, eqb-true (opened_of 32 a b t).answer 0 f, refl)
    go true false false e false f = inl (refl, refl, λ x. eqb-false (opened_of 32 a b t).answer 0 f x)

-- what it leaves is as it was, or the caller's
pub opening_token : (count at U : ℕ) (old : Session) (a b t : ℕ)
    → ((opening_of count at U old a b t).session ≡ old) ⊎ ((opening_of count at U old a b t).session.token ≡ U)
unfolding opened_for
opening_token count at U old a b t =
    ⊎_elim {C = ((opening_of count at U old a b t).session ≡ old) ⊎ ((opening_of count at U old a b t).session.token ≡ U)} (λ e. inl e.0)
    (λ e. inr (ap (λ (o : Opening). o.session.token) e.2)) (opening_ways count at U old a b t)

-- it does not look at what the place held
module _ (count at U : ℕ) (old new : Session) (a b t : ℕ) where
  pub opening_granted : granted_by (opening_of count at U old a b t) ≡ granted_by (opening_of count at U new a b t)
  unfolding opening_of
  opening_granted = go (not (eqb (open_answer count at U) 0)) (not (eqb (opened_of 32 a b t).answer 0))
    where
      go : (p q : Bool) → granted_by (cond p (refused_opening (open_answer count at U) old) (cond q (refused_opening (opened_of 32 a b t).answer old) (record { answer = 0; number = at + 1; session = opened_for U a b t })))
          ≡ granted_by (cond p (refused_opening (open_answer count at U) new) (cond q (refused_opening (opened_of 32 a b t).answer new) (record { answer = 0; number = at + 1; session = opened_for U a b t })))
      go true q = refl
      go false true = refl
      go false false = refl

  pub opening_left : (T : ℕ) → seen T old ≡ seen T new → seen T (opening_of count at U old a b t).session ≡ seen T (opening_of count at U new a b t).session
  unfolding opening_of
  opening_left T e = go (not (eqb (open_answer count at U) 0)) (not (eqb (opened_of 32 a b t).answer 0))
    where
      go : (p q : Bool) → seen T (cond p (refused_opening (open_answer count at U) old) (cond q (refused_opening (opened_of 32 a b t).answer old) (record { answer = 0; number = at + 1; session = opened_for U a b t }))).session
          ≡ seen T (cond p (refused_opening (open_answer count at U) new) (cond q (refused_opening (opened_of 32 a b t).answer new) (record { answer = 0; number = at + 1; session = opened_for U a b t }))).session
      go true q = e
      go false true = e
      go false false = refl

-- the three ways of a token that is not 0, on a list of forty
module _ (T : ℕ) (h : T ≡ 0 → ⊥) (at : ℕ) (old : Session) (a b t : ℕ) where
  pub opening_full : places ≤ at → opening_of places at T old a b t ≡ refused_opening 25 old
  unfolding opening_of open_answer first
  opening_full f = rw (ne_eqb T 0 h, le-leb places at f) refl

  pub opening_refused : at < places → ((opened_of 32 a b t).answer ≡ 0 → ⊥) → opening_of places at T old a b t ≡ refused_opening (opened_of 32 a b t).answer old
  unfolding opening_of open_answer first
  opening_refused f z = rw (ne_eqb T 0 h, lt-leb places at f, ne_eqb (opened_of 32 a b t).answer 0 z) refl

  pub opening_done : at < places → (opened_of 32 a b t).answer ≡ 0 → opening_of places at T old a b t ≡ record { answer = 0; number = at + 1; session = opened_for T a b t }
  unfolding opening_of open_answer first
  opening_done f z = rw (ne_eqb T 0 h, lt-leb places at f, eq-eqb (opened_of 32 a b t).answer 0 z) refl

-- a token of 0
pub opening_no_one : (at : ℕ) (old : Session) (a b t : ℕ) → opening_of places at 0 old a b t ≡ refused_opening 24 old
unfolding opening_of open_answer first
opening_no_one at old a b t = refl
