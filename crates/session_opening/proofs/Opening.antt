-- Opening, a law for each way out.
use Prim.Native.Nat.{ℕ, ◌+◌, ◌<◌}
use mathlib.Core.Path.{◌≡◌, refl, sym, ◌∙◌, ap}
use native.Mathlib.Omega.{arith}
use borrow.Author.Tests.{ne_eqb, leb-false}
use Rattle.std.specs.Prelude.{Result, Ok, Err}
use Rattle.common.specs.declared.Refusal.{Refusal}
use Rattle.common.specs.Answer.{answered_of, answered_passed, settled_err}
use Rattle.common.specs.Order.{first_pass}
use Rattle.endpoint.specs.declared.Opened.{Opened}
use Rattle.endpoint.specs.Open.{opened_of, told_of}
use Rattle.session.specs.declared.Session.{Session}
use Rattle.session.specs.declared.Reached.{Reached}
use Rattle.session.specs.Place.{places}
use Rattle.session.specs.Open.{open_answer, opened_for, opening_of}
use Rattle.session.specs.Shapes.{opened_by}

-- an answer and a session, as opening gives them
abbrev both : Result ℕ Refusal → Session → Reached ℕ
both a s = record { answer = a; session = s }

module _ (count at token : ℕ) where
  pub within : {x : Unit} → Ok x ≡ answered_of (open_answer count at token) → at < places
  unfolding open_answer
  within {x} e =
      let (forty, more) = first_pass _ _ _ (omega arith) (answered_passed x (open_answer count at token) e) in
      let (owned, rest) = first_pass _ _ _ (omega arith) more in
      leb-false _ _ (first_pass _ _ _ (omega arith) rest).0

  module _ (old : Session) (a b t : ℕ) where
    -- refused before all else
    pub refused : {r : Refusal} → Err r ≡ answered_of (open_answer count at token)
        → both (Err r) old ≡ opened_by (opening_of count at token old a b t)
    unfolding opening_of answered_of
    refused {r} e =
        let (h, q) = settled_err r (open_answer count at token) tt e in
        rw (q, ne_eqb (open_answer count at token) 0 h, ne_eqb (open_answer count at token) 0 h) refl

    module _ {x : Unit} (e : Ok x ≡ answered_of (open_answer count at token)) {o : Opened} (f : o ≡ told_of (opened_of 32 a b t)) where
      -- refused by the endpoint
      pub refused_by_it : {r : Refusal} → o.answer ≡ Err r
          → both (Err r) old ≡ opened_by (opening_of count at token old a b t)
      unfolding opening_of answered_of
      refused_by_it {r} g =
          let (h, q) = settled_err r (opened_of 32 a b t).answer tt (sym g ∙ ap (λ (o : Opened). o.answer) f) in
          rw (← answered_passed x (open_answer count at token) e, q, ne_eqb (opened_of 32 a b t).answer 0 h, ne_eqb (opened_of 32 a b t).answer 0 h) refl

      -- opened
      pub opened : {y : Unit} → o.answer ≡ Ok y
          → both (Ok (at + 1)) (record { token = token; sender = o.sender; receiver = o.receiver }) ≡ opened_by (opening_of count at token old a b t)
      unfolding opening_of opened_for
      opened {y} g =
          let z = answered_passed y (opened_of 32 a b t).answer (sym g ∙ ap (λ (o : Opened). o.answer) f) in
          rw (← answered_passed x (open_answer count at token) e, ← z, f) refl
