-- Demand 1, its last sentence, for the endpoint: "A refusal changes no record and no lent byte." Of every endpoint, sound or not, and every call: where the answer is not
-- 0, both records and both stores are as given, and so is the lent output.
use Rattle.std.specs.Prelude.{ℕ, List, [], ◌∷◌, ◌≡◌, refl, Err}
use Rattle.std.proofs.Common.{sym, ◌∙◌, ap}
use Rattle.common.specs.declared.Refusal.{Refusal}
use Rattle.common.specs.Answer.{no_of, number_of, settled, answered_of, written_of, number_settled, number_written, left_refused, settled_err}
use Rattle.endpoint.specs.Calls.{Endpoint, Call, answer_of, writes_of, output_of, call_of, calls_of}
use Rattle.endpoint.specs.Known.{answers_known}
use Rattle.endpoint.specs.Refused.{call_refused, refused_not_zero}

pub refused_changes_nothing : (w cap : ℕ) (e : Endpoint) (c : Call) → (answer_of w cap e c ≡ 0 → ⊥)
    → (call_of w cap e c ≡ e) × ((out : List ℕ) → output_of w cap e c out ≡ out)
refused_changes_nothing w cap e c h =
    (call_refused w cap e c h, λ out. sym (left_refused (answer_of w cap e c) (answer_of w cap e c) (writes_of w e c) out refl h))

-- The same of a call that writes, by the answer that it gives: Err r stands for the number of r, which is not 0.
pub refused_writes_nothing : (w cap : ℕ) (e : Endpoint) (c : Call) (r : Refusal) → written_of (answer_of w cap e c) (writes_of w e c) ≡ Err r
    → (answer_of w cap e c ≡ no_of r) × (call_of w cap e c ≡ e) × ((out : List ℕ) → output_of w cap e c out ≡ out)
refused_writes_nothing w cap e c r h =
    let (left, bytes) = refused_changes_nothing w cap e c (refused_not_zero (answer_of w cap e c) r (writes_of w e c) h) in
    (sym (number_written (answer_of w cap e c) (writes_of w e c) (answers_known w cap e c)) ∙ ap number_of h, left, bytes)

-- And of a call that tells something else, or nothing: a sweep, and a datagram received.
pub refused_tells_nothing : {A : Type 0} (w cap : ℕ) (e : Endpoint) (c : Call) (x : A) (r : Refusal) → settled (answer_of w cap e c) x ≡ Err r
    → (answer_of w cap e c ≡ no_of r) × (call_of w cap e c ≡ e) × ((out : List ℕ) → output_of w cap e c out ≡ out)
refused_tells_nothing {A} w cap e c x r h =
    let (left, bytes) = refused_changes_nothing w cap e c (settled_err r (answer_of w cap e c) x (sym h)).0 in
    (sym (number_settled {A = A} (answer_of w cap e c) x (answers_known w cap e c)) ∙ ap number_of h, left, bytes)

pub refused_answers_nothing : (w cap : ℕ) (e : Endpoint) (c : Call) (r : Refusal) → answered_of (answer_of w cap e c) ≡ Err r
    → (answer_of w cap e c ≡ no_of r) × (call_of w cap e c ≡ e) × ((out : List ℕ) → output_of w cap e c out ≡ out)
unfolding answered_of
refused_answers_nothing w cap e c r h = refused_tells_nothing w cap e c tt r h

-- each call of a list is refused, given what the call before left
abbrev pub AllRefused : ℕ → ℕ → Endpoint → List Call → Type 0
AllRefused w cap e [] = Unit {0}
AllRefused w cap e (c ∷ cs) = (answer_of w cap e c ≡ 0 → ⊥) × AllRefused w cap (call_of w cap e c) cs

-- So a sequence of refusals changes nothing.
pub refusals_change_nothing : (w cap : ℕ) (e : Endpoint) (cs : List Call) → AllRefused w cap e cs → calls_of w cap e cs ≡ e
unfolding calls_of
refusals_change_nothing w cap e [] h = refl
refusals_change_nothing w cap e (c ∷ cs) h = refusals_change_nothing w cap (call_of w cap e c) cs h.1 ∙ (refused_changes_nothing w cap e c h.0).0
