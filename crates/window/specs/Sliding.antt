-- What a window holds, told by numbers: each number wants something at its place, and lo says that all below it is left behind. Base has
-- then passed the wants that pass, in whatever order they came to be, and the closed forms at the end say so.
use Prim.Native.Nat.{ℕ, zero, suc, ◌+◌, ◌%◌, ◌≤◌, ◌<◌, max}
use Rattle.std.specs.Prelude.{Bool, true, false, List, ◌≡◌, refl, eqb, ltb, length, get_or, set}
use Rattle.std.proofs.Math.Bool.{cond}
use Rattle.std.proofs.Math.Logic.{⊎_elim}
use Rattle.std.proofs.Math.Path.{sym, ap, subst}
use Rattle.std.proofs.Common.{◌∙◌, mod-lt, length-set, get_or-set_same, get_or-set_other, lt-ltb, le-ltb, eqb-true, eq-eqb, ne_eqb}
use Rattle.std.proofs.Math.Nat.{add-mod_right}
use native.Mathlib.Omega.{arith}
use Rattle.std.proofs.Math.Seq.{ext_get_or}
use Rattle.std.proofs.lemmas.Bool.{eqb-false}
use Rattle.common.specs.Facts.{lt_or_ge, bool, clash}
use Rattle.window.specs.Window.{Win, here, put, passed, cleared, lifted, slid}
use Rattle.window.specs.Places.{place_same, number_from, number_at, tabulate, length_tabulate, get_d_tabulate, spread}
use Rattle.window.specs.Free.{free, free_is}

-- w places are in use, of cap; a blank one does not pass
pub record Shape {A : Type 0} (blank : A) (w cap : ℕ) (pass : A → Bool) : Type 0 where
  pub some : 0 < w
  pub fits : w ≤ cap
  pub stops : pass blank ≡ false

-- each place holds what its number wants; none wants anything from lo + w on
pub record Weak {A : Type 0} (blank : A) (w cap : ℕ) (pass : A → Bool) (lo : ℕ) (want : ℕ → A) (r : Win A) : Type 0 where
  pub size : length r.places ≡ cap
  pub from : lo ≤ r.base
  pub below : (n : ℕ) → lo ≤ n → n < r.base → pass (want n) ≡ true
  pub holds : (n : ℕ) → r.base ≤ n → n < r.base + w → here blank w r n ≡ want n
  pub beyond : (n : ℕ) → lo + w ≤ n → want n ≡ blank
  pub spare : (i : ℕ) → w ≤ i → get_or r.places i blank ≡ blank

-- and base stands where it should
pub record Inv {A : Type 0} (blank : A) (w cap : ℕ) (pass : A → Bool) (lo : ℕ) (want : ℕ → A) (r : Win A) : Type 0 where
  pub weak : Weak blank w cap pass lo want r
  pub stands : pass (want r.base) ≡ false

-- number n wants a instead
unfoldable pub updated : {A : Type 0} → ℕ → A → (ℕ → A) → ℕ → A
updated n a want m = cond (eqb m n) a (want m)

pub updated_at : {A : Type 0} (n : ℕ) (a : A) (want : ℕ → A) (m : ℕ) → m ≡ n → updated n a want m ≡ a
unfolding updated
updated_at n a want m e = rw (eq-eqb m n e) refl

pub updated_off : {A : Type 0} (n : ℕ) (a : A) (want : ℕ → A) (m : ℕ) → (m ≡ n → ⊥) → updated n a want m ≡ want m
unfolding updated
updated_off n a want m h = rw (ne_eqb m n h) refl

module _ {A : Type 0} {blank : A} {w cap : ℕ} {pass : A → Bool} (k : Shape blank w cap pass) where
  set_spare : (l : List A) (n : ℕ) (a : A) → ((i : ℕ) → w ≤ i → get_or l i blank ≡ blank) → (i : ℕ) → w ≤ i → get_or (set l (n % w) a) i blank ≡ blank
  set_spare l n a h i le = let lw : n % w < w = mod-lt n k.some in get_or-set_other l (n % w) i a blank (λ e. omega arith) ∙ h i le

  place_fits : (l : List A) (n : ℕ) → length l ≡ cap → n % w < length l
  place_fits l n h = let lw : n % w < w = mod-lt n k.some in omega (arith, h, k.fits)

  -- Base does not pass a number from lo on that wants nothing.
  pub base_high_lem : {lo : ℕ} {want : ℕ → A} {r : Win A} → Weak blank w cap pass lo want r → (m : ℕ) → lo ≤ m → want m ≡ blank → r.base ≤ m
  base_high_lem {lo} {want} {r} h m l e =
      ⊎_elim (λ lt. clash (pass (want m)) (h.below m l lt) (ap pass e ∙ k.stops)) (λ ge. ge) (lt_or_ge m r.base)

  -- The number at base is left behind, whatever it wants.
  leave : {lo : ℕ} {want : ℕ → A} {r : Win A} → Weak blank w cap pass lo want r → Weak blank w cap pass (r.base + 1) want (passed blank w r)
  leave {lo} {want} {r} h =
      record {
        size = length-set r.places (r.base % w) blank ∙ h.size;
        from = omega arith;
        below = λ n l u. absurd (omega arith);
        holds = λ n l u. ⊎_elim (inside n l) (at_top n u) (lt_or_ge n (r.base + w));
        beyond = λ n l. h.beyond n (omega (arith, h.from));
        spare = set_spare r.places r.base blank h.spare;
      }
    where
      inside : (n : ℕ) → r.base + 1 ≤ n → n < r.base + w → here blank w (passed blank w r) n ≡ want n
      inside n l lt =
          get_or-set_other r.places (r.base % w) (n % w) blank blank
          (λ e. absurd (omega (arith, place_same w r.base n r.base (omega arith) lt (omega arith) (omega arith) e)))
          ∙ h.holds n (omega arith) lt

      at_top : (n : ℕ) → n < r.base + 1 + w → r.base + w ≤ n → here blank w (passed blank w r) n ≡ want n
      at_top n u ge =
          let e : n ≡ r.base + w = omega arith in
          let place : n % w ≡ r.base % w = rw e (add-mod_right r.base w) in
          ap (λ (i : ℕ). get_or (set r.places (r.base % w) blank) i blank) place
          ∙ get_or-set_same r.places (r.base % w) blank blank (place_fits r.places r.base h.size)
          ∙ sym (h.beyond n (omega (arith, h.from)))

  -- Base passes a number whose want passes.
  pub pass_weak : {lo : ℕ} {want : ℕ → A} {r : Win A} → Weak blank w cap pass lo want r → pass (want r.base) ≡ true
      → Weak blank w cap pass lo want (passed blank w r)
  pass_weak {lo} {want} {r} h s =
      let q = leave h in
      record {
        size = q.size;
        from = omega (arith, h.from);
        below = λ n l u. ⊎_elim (λ lt. h.below n l lt) (λ ge. subst (λ (m : ℕ). pass (want m) ≡ true) (omega arith) s) (lt_or_ge n r.base);
        holds = q.holds;
        beyond = h.beyond;
        spare = q.spare;
      }

  slid_from : {lo : ℕ} {want : ℕ → A} (i : ℕ) (r : Win A) → lo + w ≤ r.base + i → Weak blank w cap pass lo want r
      → Inv blank w cap pass lo want (slid blank w pass i r)
  unfolding slid
  slid_from {lo} {want} zero r f h = record { weak = h; stands = ap pass (h.beyond r.base (omega arith)) ∙ k.stops }
  slid_from {lo} {want} (suc i) r f h =
      let m : pass (here blank w r r.base) ≡ pass (want r.base) = ap pass (h.holds r.base (omega arith) (omega (arith, k.some))) in
      ⊎_elim
      (λ t. rw t (slid_from i (passed blank w r) (omega arith) (pass_weak h (sym m ∙ t))))
      (λ t. rw t (record { weak = h; stands = sym m ∙ t }))
      (bool (pass (here blank w r r.base)))

  -- Base moves past all that pass.
  pub slid_inv : {lo : ℕ} {want : ℕ → A} {r : Win A} → Weak blank w cap pass lo want r → Inv blank w cap pass lo want (slid blank w pass w r)
  slid_inv {lo} {want} {r} h = slid_from w r (omega (arith, h.from)) h

  -- A floor that base has passed already, one that it is cleared up to, and one past all the places.
  floor_weak : {lo : ℕ} {want : ℕ → A} {r : Win A} (v : ℕ) → v ≤ r.base → Weak blank w cap pass lo want r → Weak blank w cap pass (max lo v) want r
  floor_weak v le h =
      record {
        size = h.size;
        from = omega (arith, h.from);
        below = λ n l u. h.below n (omega arith) u;
        holds = h.holds;
        beyond = λ n l. h.beyond n (omega arith);
        spare = h.spare;
      }

  cleared_near : {lo : ℕ} {want : ℕ → A} (v i : ℕ) (r : Win A) → v ≤ r.base + i → Weak blank w cap pass lo want r
      → Weak blank w cap pass (max lo v) want (cleared blank w i v r) × (v ≤ (cleared blank w i v r).base)
  unfolding cleared
  cleared_near v zero r f h = (floor_weak v (omega arith) h, omega arith)
  cleared_near {lo} {want} v (suc i) r f h =
      ⊎_elim
      (λ lt. let q = cleared_near {lo = r.base + 1} {want = want} v i (passed blank w r) (omega arith) (leave h) in
      let e : max (r.base + 1) v ≡ max lo v = omega (arith, h.from) in
      rw (lt-ltb r.base v lt) (subst (λ (x : ℕ). Weak blank w cap pass x want (cleared blank w i v (passed blank w r))) e q.0, q.1))
      (λ ge. rw (le-ltb r.base v ge) (floor_weak v ge h, ge))
      (lt_or_ge r.base v)

  cleared_far : {lo : ℕ} {want : ℕ → A} (v i : ℕ) (r : Win A) → r.base + i ≤ v → Weak blank w cap pass lo want r
      → (x : ℕ) × Weak blank w cap pass x want (cleared blank w i v r) × ((cleared blank w i v r).base ≡ r.base + i)
  unfolding cleared
  cleared_far {lo} v zero r f h = (lo, h, omega arith)
  cleared_far {lo} {want} v (suc i) r f h =
      let (x, q, e) = cleared_far {lo = r.base + 1} {want = want} v i (passed blank w r) (omega arith) (leave h) in
      rw (lt-ltb r.base v (omega arith)) (x, q, e ∙ omega arith)

  all_blank : {lo : ℕ} {want : ℕ → A} {r : Win A} → Weak blank w cap pass lo want r → ((n : ℕ) → r.base ≤ n → want n ≡ blank)
      → (n : ℕ) → here blank w r n ≡ blank
  all_blank {r = r} h f n =
      let (l, u, e) = number_at w r.base (n % w) (mod-lt n k.some) in
      ap (λ (i : ℕ). get_or r.places i blank) (sym e) ∙ h.holds (number_from w r.base (n % w)) l u ∙ f (number_from w r.base (n % w)) l

  -- All below v is left behind, however far v lies.
  pub lift_weak : {lo : ℕ} {want : ℕ → A} {r : Win A} (v : ℕ) → Weak blank w cap pass lo want r
      → Weak blank w cap pass (max lo v) want (lifted blank w v r)
  unfolding lifted
  lift_weak {lo} {want} {r} v h = ⊎_elim far near (lt_or_ge (r.base + w) v)
    where
      near : v ≤ r.base + w → Weak blank w cap pass (max lo v) want (lifted blank w v r)
      near le =
          let (q, u) = cleared_near v w r le h in
          let e : (cleared blank w w v r).base ≡ max (cleared blank w w v r).base v = omega arith in
          subst (λ (x : ℕ). Weak blank w cap pass (max lo v) want (record { base = x; places = (cleared blank w w v r).places })) e q

      far : r.base + w < v → Weak blank w cap pass (max lo v) want (lifted blank w v r)
      far lt =
          let (x, q, e) = cleared_far v w r (omega arith) h in
          let blanks = all_blank q (λ n l. h.beyond n (omega (arith, h.from))) in
          record {
            size = q.size;
            from = omega (arith, h.from);
            below = λ n l u. absurd (omega (arith, h.from));
            holds = λ n l u. blanks n ∙ sym (h.beyond n (omega (arith, h.from)));
            beyond = λ n l. h.beyond n (omega arith);
            spare = q.spare;
          }

  -- A number's place is written.
  pub put_weak : {lo : ℕ} {want : ℕ → A} {r : Win A} (n : ℕ) (a : A) → Weak blank w cap pass lo want r → r.base ≤ n → n < lo + w
      → Weak blank w cap pass lo (updated n a want) (put blank w r n a)
  put_weak {lo} {want} {r} n a h ge high =
      record {
        size = length-set r.places (n % w) a ∙ h.size;
        from = h.from;
        below = λ m l u. ap pass (updated_off n a want m (λ e. omega arith)) ∙ h.below m l u;
        holds = λ m l u. ⊎_elim (λ t. there m (eqb-true m n t)) (λ t. elsewhere m l u (eqb-false m n t)) (bool (eqb m n));
        beyond = λ m l. updated_off n a want m (λ e. omega arith) ∙ h.beyond m l;
        spare = set_spare r.places n a h.spare;
      }
    where
      there : (m : ℕ) → m ≡ n → here blank w (put blank w r n a) m ≡ updated n a want m
      there m e =
          ap (λ (i : ℕ). get_or (set r.places (n % w) a) (i % w) blank) e
          ∙ get_or-set_same r.places (n % w) a blank (place_fits r.places n h.size)
          ∙ sym (updated_at n a want m e)

      elsewhere : (m : ℕ) → r.base ≤ m → m < r.base + w → (m ≡ n → ⊥) → here blank w (put blank w r n a) m ≡ updated n a want m
      elsewhere m l u ne =
          get_or-set_other r.places (n % w) (m % w) a blank (λ e. ne (place_same w r.base m n l u ge (omega (arith, h.from)) e))
          ∙ h.holds m l u
          ∙ sym (updated_off n a want m ne)

  -- A number below base wants what passes: the window shows nothing of it.
  pub below_weak : {lo : ℕ} {want : ℕ → A} {r : Win A} (n : ℕ) (a : A) → Weak blank w cap pass lo want r → n < r.base → n < lo + w → pass a ≡ true
      → Weak blank w cap pass lo (updated n a want) r
  below_weak {lo} {want} {r} n a h lt high t =
      record {
        size = h.size;
        from = h.from;
        below = λ m l u. ⊎_elim
            (λ e. ap pass (updated_at n a want m (eqb-true m n e)) ∙ t)
            (λ e. ap pass (updated_off n a want m (eqb-false m n e)) ∙ h.below m l u)
            (bool (eqb m n));
        holds = λ m l u. h.holds m l u ∙ sym (updated_off n a want m (λ e. omega arith));
        beyond = λ m l. updated_off n a want m (λ e. omega arith) ∙ h.beyond m l;
        spare = h.spare;
      }

  -- The window that lo and the wants determine: where base stands, and what the places hold.
  pub closed_base : {lo : ℕ} {want : ℕ → A} {r : Win A} → Inv blank w cap pass lo want r → r.base ≡ free (λ n. pass (want n)) w lo
  closed_base {lo} {want} {r} h =
      sym (free_is (λ n. pass (want n)) w lo r.base h.weak.from
      (base_high_lem h.weak (lo + w) (omega arith) (h.weak.beyond (lo + w) (omega arith))) h.weak.below h.stands)

  pub closed_places : {lo : ℕ} {want : ℕ → A} {r : Win A} → Weak blank w cap pass lo want r → r.places ≡ spread blank w cap r.base want
  unfolding spread
  closed_places {lo} {want} {r} h =
      ext_get_or blank r.places (tabulate cap f) (h.size ∙ sym (length_tabulate cap f)) λ i l.
      ⊎_elim used spare (lt_or_ge i w) ∙ sym (get_d_tabulate cap f i blank (omega (arith, h.size)))
    where
      f : ℕ → A
      f i = cond (ltb i w) (want (number_from w r.base i)) blank

      used : {i : ℕ} → i < w → get_or r.places i blank ≡ f i
      used {i} lt =
          let (l, u, e) = number_at w r.base i lt in
          ap (λ (j : ℕ). get_or r.places j blank) (sym e)
          ∙ h.holds (number_from w r.base i) l u
          ∙ sym (ap (λ (x : Bool). cond x (want (number_from w r.base i)) blank) (lt-ltb i w lt))

      spare : {i : ℕ} → w ≤ i → get_or r.places i blank ≡ f i
      spare {i} ge = h.spare i ge ∙ sym (ap (λ (x : Bool). cond x (want (number_from w r.base i)) blank) (le-ltb i w ge))
