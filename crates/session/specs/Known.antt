-- Every answer of a call on a session is 0 or a refusal's number: what it stands for is told by its number alone.
use Rattle.std.specs.Prelude.{ℕ, ◌+◌, Bool, true, false, cond, not, List, ◌≡◌, refl, length, eqb, Ok, Err}
use Rattle.std.proofs.Common.{sym, eqb-true, eq-eqb}
use Rattle.common.specs.Answer.{is_answer, first_known, refusal_of, number_of, no_back, settled, answered_of, written_of}
use Rattle.common.specs.Facts.{clash}
use Rattle.endpoint.specs.Open as endpoint
use Rattle.endpoint.specs.Known.{answers_known}
use Rattle.session.specs.declared.Session.{Session}
use Rattle.session.specs.Place.{place_tests, place_answer}
use Rattle.session.specs.Call.{Asked, calls, closes, lends, no_stores, kept_of, endpoint_of, done_of, refused_by, made_of}
use Rattle.session.specs.Open.{open_tests, open_answer, refused_opening, opened_for, opening_of}
use Rattle.session.specs.Shapes.{reached_by, filled_by, counted_by, opened_by}

pub place_known : (count number token owner : ℕ) → is_answer (place_answer count number token owner) ≡ true
unfolding place_answer is_answer
place_known count number token owner = first_known (place_tests count number token owner) refl

done_known : (old : Session) (store : List ℕ) (q : Asked) → is_answer (done_of old store q).answer ≡ true
unfolding done_of is_answer
done_known old store (calls c) = answers_known 32 32 (endpoint_of old (kept_of (lends c) no_stores store)) c
done_known old store closes = refl

pub made_known : (count number token : ℕ) (old : Session) (store : List ℕ) (q : Asked)
    → is_answer (made_of count number token old store q).answer ≡ true
unfolding made_of
made_known count number token old store q = go (eqb (place_answer count number token old.token) 0)
  where
    go : (b : Bool) → is_answer (cond b (done_of old store q) (refused_by (place_answer count number token old.token) old store)).answer ≡ true
    go true = done_known old store q
    go false = place_known count number token old.token

pub opened_known : (firstdata firstchannel timeout : ℕ) → is_answer (endpoint.opened_of 32 firstdata firstchannel timeout).answer ≡ true
unfolding endpoint.opened_of endpoint.open_answer is_answer
opened_known firstdata firstchannel timeout = go (eqb (endpoint.open_answer firstdata firstchannel timeout) 0)
  where
    go : (b : Bool)
        → is_answer (cond b (endpoint.fresh_pair 32 0 firstdata firstchannel timeout) (endpoint.zero_pair 32 (endpoint.open_answer firstdata firstchannel timeout))).answer ≡ true
    go true = refl
    go false = first_known (endpoint.open_tests firstdata firstchannel timeout) refl

pub opening_known : (count at token : ℕ) (old : Session) (firstdata firstchannel timeout : ℕ)
    → is_answer (opening_of count at token old firstdata firstchannel timeout).answer ≡ true
unfolding opening_of open_answer is_answer
opening_known count at token old firstdata firstchannel timeout =
    go (not (eqb (open_answer count at token) 0)) (not (eqb (endpoint.opened_of 32 firstdata firstchannel timeout).answer 0))
  where
    go : (p q : Bool)
        → is_answer
        (cond p (refused_opening (open_answer count at token) old)
        (cond q (refused_opening (endpoint.opened_of 32 firstdata firstchannel timeout).answer old)
        (record { answer = 0; number = at + 1; session = opened_for token firstdata firstchannel timeout }))).answer ≡ true
    go true q = first_known (open_tests count at token) refl
    go false true = opened_known firstdata firstchannel timeout
    go false false = refl

-- So what a call tells has the definitions' number, accepted or refused.
settled_number : {A : Type 0} (n : ℕ) (x : A) → is_answer n ≡ true → number_of (settled n x) ≡ n
settled_number {A} n x h = go (eqb n 0) refl
  where
    go : (t : Bool) → eqb n 0 ≡ t → number_of {A = A} (cond t (Ok x) (Err (refusal_of n))) ≡ n
    go true e = sym (eqb-true n 0 e)
    go false e = no_back n h (λ z. clash (eqb n 0) (eq-eqb n 0 z) e)

pub made_told : (count number token : ℕ) (old : Session) (store : List ℕ) (q : Asked)
    → (number_of (reached_by (made_of count number token old store q)).answer ≡ (made_of count number token old store q).answer)
    × (number_of (filled_by (made_of count number token old store q)).answer ≡ (made_of count number token old store q).answer)
    × (number_of (counted_by (made_of count number token old store q)).answer ≡ (made_of count number token old store q).answer)
unfolding answered_of written_of
made_told count number token old store q =
    let m = made_of count number token old store q in
    let h = made_known count number token old store q in
    (settled_number m.answer tt h, settled_number m.answer (length m.bytes) h, settled_number m.answer m.lost h)

pub opening_told : (count at token : ℕ) (old : Session) (firstdata firstchannel timeout : ℕ)
    → number_of (opened_by (opening_of count at token old firstdata firstchannel timeout)).answer
    ≡ (opening_of count at token old firstdata firstchannel timeout).answer
opening_told count at token old firstdata firstchannel timeout =
    let o = opening_of count at token old firstdata firstchannel timeout in
    settled_number o.answer o.number (opening_known count at token old firstdata firstchannel timeout)
