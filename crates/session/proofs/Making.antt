-- The two ways of a call on one session: refused before all else, where nothing changes, and the owner's own. Assumes nothing.
use Prim.Native.Nat.{ℕ}
use mathlib.Core.List.{List}
use mathlib.Core.Path.{◌≡◌, refl, sym, ap}
use borrow.Author.Tests.{ne_eqb}
use Rattle.std.specs.Prelude.{Ok, Err}
use Rattle.common.specs.declared.Refusal.{Refusal}
use Rattle.common.specs.Answer.{refusal_of, answered_of, written_of, left_of, settled_err, answered_passed}
use Rattle.session.specs.declared.Session.{Session}
use Rattle.session.specs.Place.{place_answer}
use Rattle.session.specs.Call.{Asked, Made, done_of, refused_by, made_of, made_refused, made_done}
use Rattle.session.specs.Shapes.{reached_by, filled_by, counted_by}

module _ (count number token : ℕ) (old : Session) (store : List ℕ) (q : Asked) where
  -- the session is the caller's
  pub owned : {x : Unit} → Ok x ≡ answered_of (place_answer count number token old.token)
      → done_of old store q ≡ made_of count number token old store q
  owned {x} e = sym (made_done count number token old store q (sym (answered_passed x (place_answer count number token old.token) e)))

  -- it is not
  module _ {r : Refusal} (e : Err r ≡ answered_of (place_answer count number token old.token)) where
    abbrev no : ℕ
    no = place_answer count number token old.token

    told : (no ≡ 0 → ⊥) × (r ≡ refusal_of no)
    unfolding answered_of
    told = settled_err r no tt e

    refused : refused_by no old store ≡ made_of count number token old store q
    refused = sym (made_refused count number token old store q told.0)

    pub refused_reached : record { answer = Err r; session = old } ≡ reached_by (made_of count number token old store q)
    unfolding answered_of
    refused_reached = rw (told.1, ← refused, ne_eqb no 0 told.0) refl

    pub refused_filled : record { answer = Err r; session = old } ≡ filled_by (made_of count number token old store q)
    unfolding written_of
    refused_filled = rw (told.1, ← refused, ne_eqb no 0 told.0) refl

    pub refused_counted : record { answer = Err r; session = old } ≡ counted_by (made_of count number token old store q)
    refused_counted = rw (told.1, ← refused, ne_eqb no 0 told.0) refl

    pub refused_written : Err r ≡ (filled_by (made_of count number token old store q)).answer
    unfolding written_of
    refused_written = rw (told.1, ← refused, ne_eqb no 0 told.0) refl

    pub refused_store : store ≡ (made_of count number token old store q).store
    refused_store = ap (λ (m : Made). m.store) refused

    pub refused_left : (out : List ℕ)
        → out ≡ left_of (made_of count number token old store q).answer (made_of count number token old store q).bytes out
    unfolding left_of
    refused_left out = rw (← refused, ne_eqb no 0 told.0) refl
