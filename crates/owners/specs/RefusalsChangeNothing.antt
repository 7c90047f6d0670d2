-- "A refusal changes no record and no lent byte" (document 01's demand 1), on the list: of any list, any number, token and stores, and anything that is asked, where the
-- answer is not 0 the list, the stores and the lent output are as they were.
use Rattle.std.specs.Prelude.{ℕ, List, ◌≡◌, refl, length, get_or, set}
use Rattle.std.proofs.Common.{⊎_elim, sym, ◌∙◌, ap, subst}
use Rattle.common.specs.Answer.{left_of, left_refused}
use Rattle.endpoint.specs.RefusedChangesNothing.{refused_changes_nothing}
use Rattle.session.specs.declared.Session.{Session}
use Rattle.session.specs.Place.{blank, place_of, place_answer}
use Rattle.session.specs.Call.{Stores, Lends, lends, lent_of, kept_of, endpoint_of, stores_of, holding, Asked, calls, closes, lends_for, Made, done_of, made_of, made_refused, made_done}
use Rattle.session.specs.Open.{Opening}
use Rattle.session.specs.List.{outcome_of, list_of, lowest_of, opening_at, open_list_of}
use Rattle.owners.specs.Seeing.{set_same, kept_lent, by_answer, opening_ways}
use Rattle.owners.specs.SessionsAreEndpoints.{own_call, call_answer, call_leaves}

-- what a refusal leaves of a session and of its owner's stores
abbrev Same : Session → Stores → Lends → Made → Type 0
Same s x k m = (m.session ≡ s) × (kept_of k x m.store ≡ x)

-- of the owner's own session
done_refused : (s : Session) (x : Stores) (q : Asked) → ((done_of s (lent_of (lends_for q) x) q).answer ≡ 0 → ⊥) → Same s x (lends_for q) (done_of s (lent_of (lends_for q) x) q)
unfolding done_of
done_refused s x (calls c) h =
    let e : endpoint_of (own_call s x c).session (kept_of (lends c) x (own_call s x c).store) ≡ endpoint_of s x =
    call_leaves s x c ∙ (refused_changes_nothing 32 32 (endpoint_of s x) c (λ z. h (call_answer s x c ∙ z))).0 in
    (ap (holding s) e, ap stores_of e)
done_refused s x closes h = absurd (h refl)

made_same : (count number token : ℕ) (s : Session) (x : Stores) (q : Asked) → ((made_of count number token s (lent_of (lends_for q) x) q).answer ≡ 0 → ⊥)
    → Same s x (lends_for q) (made_of count number token s (lent_of (lends_for q) x) q)
made_same count number token s x q h =
    by_answer (Same s x (lends_for q) (made_of count number token s (lent_of (lends_for q) x) q)) (place_answer count number token s.token)
    (λ z. let m : made_of count number token s (lent_of (lends_for q) x) q ≡ done_of s (lent_of (lends_for q) x) q = made_done count number token s (lent_of (lends_for q) x) q z in
    subst (Same s x (lends_for q)) (sym m) (done_refused s x q (λ y. h (ap (λ (k : Made). k.answer) m ∙ y))))
    (λ z. subst (Same s x (lends_for q)) (sym (made_refused count number token s (lent_of (lends_for q) x) q z)) (refl, kept_lent (lends_for q) x))

-- every call by number and token
pub refusals_change_nothing : (l : List Session) (number token : ℕ) (x : Stores) (q : Asked) → ((outcome_of l number token (lent_of (lends_for q) x) q).answer ≡ 0 → ⊥)
    → (list_of l number token (lent_of (lends_for q) x) q ≡ l) × (kept_of (lends_for q) x (outcome_of l number token (lent_of (lends_for q) x) q).store ≡ x)
    × ((out : List ℕ) → left_of (outcome_of l number token (lent_of (lends_for q) x) q).answer (outcome_of l number token (lent_of (lends_for q) x) q).bytes out ≡ out)
refusals_change_nothing l number token x q h =
    let (session, stores) = made_same (length l) number token (get_or l (place_of number) blank) x q h in (
      ap (set l (place_of number)) session ∙ set_same l (place_of number) blank,
      stores,
      λ out. sym (left_refused (outcome_of l number token (lent_of (lends_for q) x) q).answer (outcome_of l number token (lent_of (lends_for q) x) q).answer (outcome_of l number token (lent_of (lends_for q) x) q).bytes out refl h),
    )

-- and opening
pub refused_openings_change_nothing : (l : List Session) (token a b t : ℕ) → ((opening_at l token a b t).answer ≡ 0 → ⊥) → (open_list_of l token a b t ≡ l) × ((opening_at l token a b t).number ≡ 0)
refused_openings_change_nothing l token a b t h =
    ⊎_elim {C = (open_list_of l token a b t ≡ l) × ((opening_at l token a b t).number ≡ 0)} (λ e. (ap (set l (lowest_of l)) e.0 ∙ set_same l (lowest_of l) blank, e.1))
    (λ e. absurd (h (ap (λ (o : Opening). o.answer) e.2))) (opening_ways (length l) (lowest_of l) token (get_or l (lowest_of l) blank) a b t)
