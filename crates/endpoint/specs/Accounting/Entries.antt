-- What a history tells whose numbers are given in order: a data number goes out once, and a block's sends are its first and its resends.
use Prim.Native.Nat.{ℕ, suc, ◌+◌, ◌≤◌, ◌<◌}
use Rattle.std.specs.Prelude.{Bool, ◌≡◌}
use Rattle.std.proofs.Math.Bool.{true, false, cond}
use mathlib.Core.List.{List, [], ◌∷◌}
use Rattle.std.proofs.Math.Logic.{inl, inr, ⊎_elim}
use Rattle.std.proofs.Math.Path.{refl, sym, ap}
use Rattle.std.proofs.Common.{◌∙◌}
use native.Mathlib.Omega.{arith}
use Rattle.std.proofs.Math.Dec.{eqb}
use borrow.Author.Tests.{eq-eqb, eqb-true, ne_eqb}
use Rattle.common.specs.Facts.{lt_or_ge, clash, or_left, or_right, or_cases}
use Rattle.sender.specs.SentFacts.{equal_or_not}
use Rattle.endpoint.specs.Accounts.{Entry, sent, told, swept, count_in, any_in, transmits, retransmits, transmits_under, Gone, new_in, transmissions_in, sends_in, resends_in, InTurn, InOrder}

-- One entry more counts, or does not.
pub count_yes : (p : Entry → Bool) (x : Entry) (h : List Entry) → p x ≡ true → count_in p (x ∷ h) ≡ suc (count_in p h)
unfolding count_in
count_yes p x h t = ap (λ (b : Bool). cond b (suc (count_in p h)) (count_in p h)) t

pub count_no : (p : Entry → Bool) (x : Entry) (h : List Entry) → p x ≡ false → count_in p (x ∷ h) ≡ count_in p h
unfolding count_in
count_no p x h t = ap (λ (b : Bool). cond b (suc (count_in p h)) (count_in p h)) t

-- A transmission under a number that passes is found, and what is found is one.
module _ (p : ℕ → Bool) (c : ℕ) where
  pub gone_any : (n : ℕ) (h : List Entry) → Gone n c h → p n ≡ true → any_in (transmits_under p c) h ≡ true
  unfolding any_in
  gone_any n [] g t = elim g [ ]
  gone_any n (sent again m d ∷ h) (inl g) t =
      or_left _ (any_in (transmits_under p c) h) (ap (λ (b : Bool). cond b (p m) false) (eq-eqb d c (sym g.1)) ∙ ap p (sym g.0) ∙ t)
  gone_any n (sent again m d ∷ h) (inr g) t = or_right (cond (eqb d c) (p m) false) _ (gone_any n h g t)
  gone_any n (told f ∷ h) g t = gone_any n h g t
  gone_any n (swept f ∷ h) g t = gone_any n h g t

  pub any_gone : (h : List Entry) → any_in (transmits_under p c) h ≡ true → (n : ℕ) × Gone n c h × (p n ≡ true)
  unfolding any_in
  any_gone [] t = clash false t refl
  any_gone (sent again m d ∷ h) t =
      ⊎_elim
      (λ x. let (e, k) = here (eqb d c) refl x in (m, inl (refl, e), k))
      (λ x. let (n, g, k) = any_gone h x in (n, inr g, k))
      (or_cases (cond (eqb d c) (p m) false) (any_in (transmits_under p c) h) t)
    where
      here : (b : Bool) → eqb d c ≡ b → cond b (p m) false ≡ true → (c ≡ d) × (p m ≡ true)
      here true e x = (sym (eqb-true d c e), x)
      here false e x = clash false x refl
  any_gone (told f ∷ h) t = any_gone h t
  any_gone (swept f ∷ h) t = any_gone h t

module _ (firstdata firstchannel : ℕ) where
  -- What has gone out has a number below the next,
  gone_below : (n c : ℕ) (h : List Entry) → InOrder firstdata firstchannel h → Gone n c h → n < firstdata + transmissions_in h
  unfolding count_in
  gone_below n c [] o g = elim g [ ]
  gone_below n c (sent again m d ∷ h) o (inl g) = omega (arith, g.0, o.0)
  gone_below n c (sent again m d ∷ h) o (inr g) = omega (arith, gone_below n c h o.2 g)
  gone_below n c (told f ∷ h) o g = gone_below n c h o g
  gone_below n c (swept f ∷ h) o g = gone_below n c h o g

  -- so a number goes out once.
  pub gone_once : (n c d : ℕ) (h : List Entry) → InOrder firstdata firstchannel h → Gone n c h → Gone n d h → c ≡ d
  gone_once n c d [] o g k = elim g [ ]
  gone_once n c d (sent again m x ∷ h) o (inl g) (inl k) = g.1 ∙ sym k.1
  gone_once n c d (sent again m x ∷ h) o (inl g) (inr k) = absurd (omega (arith, g.0, o.0, gone_below n d h o.2 k))
  gone_once n c d (sent again m x ∷ h) o (inr g) (inl k) = absurd (omega (arith, k.0, o.0, gone_below n c h o.2 g))
  gone_once n c d (sent again m x ∷ h) o (inr g) (inr k) = gone_once n c d h o.2 g k
  gone_once n c d (told f ∷ h) o g k = gone_once n c d h o g k
  gone_once n c d (swept f ∷ h) o g k = gone_once n c d h o g k

  -- a block that goes out is the next new one, or one of those before
  turn_below : (again : Bool) (c : ℕ) (h : List Entry) → InTurn again firstchannel (new_in h) c → c < firstchannel + new_in (sent again 0 c ∷ h)
  unfolding count_in
  turn_below false c h t = omega arith
  turn_below true c h t = t.1

  new_grows : (again : Bool) (c : ℕ) (h : List Entry) → new_in h ≤ new_in (sent again 0 c ∷ h)
  unfolding count_in
  new_grows false c h = omega arith
  new_grows true c h = omega arith

  -- A block that has not begun was never sent.
  pub unsent : (c : ℕ) (h : List Entry) → InOrder firstdata firstchannel h → firstchannel + new_in h ≤ c → (sends_in h c ≡ 0) × (resends_in h c ≡ 0)
  unfolding count_in
  unsent c [] o l = (refl, refl)
  unsent c (sent again m d ∷ h) o l =
      let ne : eqb d c ≡ false = ne_eqb d c (λ e. omega (arith, turn_below again d h o.1)) in
      let (s, r) = unsent c h o.2 (omega (arith, new_grows again d h)) in
      (count_no (transmits c) (sent again m d) h ne ∙ s, count_no (retransmits c) (sent again m d) h (either again ne) ∙ r)
    where
      either : (again : Bool) → eqb d c ≡ false → cond again (eqb d c) false ≡ false
      either true e = e
      either false e = refl
  unsent c (told f ∷ h) o l = unsent c h o l
  unsent c (swept f ∷ h) o l = unsent c h o l

  -- One that has begun was sent once, and as often again as it was resent.
  pub sends_are : (c : ℕ) (h : List Entry) → InOrder firstdata firstchannel h → firstchannel ≤ c → c < firstchannel + new_in h → sends_in h c ≡ 1 + resends_in h c
  unfolding count_in
  sends_are c [] o l u = absurd (omega arith)
  sends_are c (sent false m d ∷ h) o l u =
      ⊎_elim
      (λ e. let (s, r) = unsent c h o.2 (omega (arith, o.1)) in
      count_yes (transmits c) (sent false m d) h (eq-eqb d c (sym e)) ∙ ap suc (s ∙ sym r) ∙ omega arith)
      (λ ne. count_no (transmits c) (sent false m d) h (ne_eqb d c (λ e. ne (sym e))) ∙ sends_are c h o.2 l (omega (arith, o.1, less ne)))
      (equal_or_not c d)
    where
      less : (c ≡ d → ⊥) → c < firstchannel + new_in h
      less ne = ⊎_elim (λ x. x) (λ x. absurd (ne (omega (arith, o.1)))) (lt_or_ge c (firstchannel + new_in h))
  sends_are c (sent true m d ∷ h) o l u = each (eqb d c) (sends_are c h o.2 l u)
    where
      each : (b : Bool) → sends_in h c ≡ 1 + resends_in h c
          → cond b (suc (sends_in h c)) (sends_in h c) ≡ 1 + cond b (suc (resends_in h c)) (resends_in h c)
      each true e = omega arith
      each false e = e
  sends_are c (told f ∷ h) o l u = sends_are c h o l u
  sends_are c (swept f ∷ h) o l u = sends_are c h o l u
