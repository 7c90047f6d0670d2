-- Windows of which the same is wanted are the same.
use Rattle.std.specs.Prelude.{ℕ, ◌≤◌, Bool, ◌≡◌}
use Rattle.std.proofs.Common.{sym, ◌∙◌, ap, arith}
use Rattle.window.specs.Window.{Win}
use Rattle.window.specs.Places.{spread}
use Rattle.window.specs.Sliding.{Shape, Weak, Inv, closed_base, closed_places}

module _ {A : Type 0} {blank : A} {w cap : ℕ} {pass : A → Bool} where
  -- Only the wants from lo on matter.
  pub weak_alike : {lo : ℕ} {want : ℕ → A} {r : Win A} (also : ℕ → A) → ((n : ℕ) → lo ≤ n → want n ≡ also n)
      → Weak blank w cap pass lo want r → Weak blank w cap pass lo also r
  weak_alike also e h =
      record {
        size = h.size;
        from = h.from;
        below = λ n l u. ap pass (sym (e n l)) ∙ h.below n l u;
        holds = λ n l u. h.holds n l u ∙ e n (omega (arith, h.from));
        beyond = λ n l. sym (e n (omega arith)) ∙ h.beyond n l;
        spare = h.spare;
      }

  pub inv_only : Shape blank w cap pass → {lo : ℕ} {want : ℕ → A} {r q : Win A} → Inv blank w cap pass lo want r → Inv blank w cap pass lo want q → r ≡ q
  inv_only k {lo} {want} {r} {q} h j =
      let e : r.base ≡ q.base = closed_base k h ∙ sym (closed_base k j) in
      let f : r.places ≡ q.places =
      closed_places k h.weak ∙ ap (λ (b : ℕ). spread blank w cap b want) e ∙ sym (closed_places k j.weak) in
      λ i. record { base = e i; places = f i }
