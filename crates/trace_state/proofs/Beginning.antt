-- What opening leaves, and the state before the first line.
use Rattle.std.specs.Prelude.{ℕ, Bool, true, false, not, cond, ◌≡◌, refl, eqb, Ok, Err}
use Rattle.std.specs.Result.{is_err}
use Rattle.std.proofs.Common.{sym, ap, ◌∙◌}
use Rattle.common.specs.Facts.{clash}
use Rattle.common.specs.Answer.{settled, answered_of, refusal_of}
use Rattle.endpoint.specs.declared.Opened.{Opened}
use Rattle.endpoint.specs.Open.{Opens, told_of}
use Rattle.trace.specs.declared.Cursor.{Cursor}
use Rattle.trace.specs.Read.{due_of}
use Rattle.receiver.specs.declared.Receiver.{Receiver}
use Rattle.sender.specs.declared.Sender.{Sender}
use Rattle.trace_state.specs.declared.State.{State}
use Rattle.trace_state.specs.Steps.{opened_by}

-- an answer told by its number is a refusal exactly where it is not 0
told_err : {A : Type 0} (n : ℕ) (x : A) → is_err (settled n x) ≡ not (eqb n 0)
told_err n x = by (eqb n 0)
  where
    by : (t : Bool) → is_err (cond t (Ok x) (Err (refusal_of n))) ≡ not t
    by true = refl
    by false = refl

-- it is refused, and it is not
module _ (c : Cursor) (o : Opens) {x : Opened} (e : x ≡ told_of o) {t : Bool} (i : t ≡ is_err x.answer) where
  refused : t ≡ not (eqb o.answer 0)
  unfolding answered_of
  refused = i ∙ ap (λ (x : Opened). is_err x.answer) e ∙ told_err o.answer tt

  pub opened_not : t ≡ true → due_of c 9 ≡ due_of c (opened_by c o)
  unfolding opened_by
  opened_not h = by (eqb o.answer 0) (sym refused ∙ h)
    where
      by : (b : Bool) → not b ≡ true → due_of c 9 ≡ due_of c (cond b c.due 9)
      by true q = clash false q refl
      by false q = refl

  pub opened_well : t ≡ false → c ≡ due_of c (opened_by c o)
  unfolding opened_by
  opened_well h = by (eqb o.answer 0) (sym refused ∙ h)
    where
      by : (b : Bool) → not b ≡ false → c ≡ due_of c (cond b c.due 9)
      by true q = refl
      by false q = clash true refl q

-- a state of equal parts
pub state_of : {a b : Cursor} {s t : Sender} {r q : Receiver} → a ≡ b → s ≡ t → r ≡ q
    → ◌≡◌ {A = State} (record { cursor = a; sender = s; receiver = r }) (record { cursor = b; sender = t; receiver = q })
state_of p q r = rw (p, q, r) refl
