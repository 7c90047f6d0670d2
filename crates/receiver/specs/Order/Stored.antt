-- The blocks that came, in their places: which are held, and that their bytes stand in the store.
use Prim.Native.Nat.{ℕ, ◌+◌, ◌%◌, ◌≤◌, ◌<◌}
use Rattle.std.specs.Prelude.{Bool, true, false, cond, List, ◌≡◌, refl, eqb, drop}
use Rattle.std.proofs.Common.{⊎_elim, ◌∙◌, arith, eqb-true}
use Rattle.std.proofs.Math.Path.{sym, ap, subst, fun_ext}
use Rattle.std.proofs.Math.ListN.{length, take}
use Rattle.std.proofs.lemmas.Bool.{eqb-false}
use Rattle.common.specs.Facts.{lt_or_ge, bool, clash}
use Rattle.common.specs.Put.{put_of, put_length}
use Rattle.common.specs.Parts.{part_laid, part_other, part_length}
use Rattle.numbers.specs.Full.{highest}
use Rattle.window.specs.Store.{place_size, store_size, store_place}
use Rattle.window.specs.Window.{Win, here, put, passed}
use Rattle.window.specs.Places.{place_same}
use Rattle.window.specs.Sliding.{updated, updated_at, updated_off}
use Rattle.window.specs.Members.{with_one, one_at, one_off}
use Rattle.receiver.specs.declared.Hold.{Hold}
use Rattle.receiver.specs.Record.{State, is_held, empty, holding, holds_of, hold_at, contents}
use Rattle.receiver.specs.Determined.{inside, held_in}
use Rattle.receiver.specs.Facts.{Facts}
use Rattle.receiver.specs.Keeping.Marks.{in_window}
use Rattle.receiver.specs.Keeping.Holds.{Holds, hold_in, holds_outset, holds_new, holds_late, holds_taken, held_in_lem, held_out, in_held}
use Rattle.receiver.specs.Keeping.After.{place_fits}

-- body c is what block c holds, has says which blocks came
abbrev pub hold_for : (ℕ → List ℕ) → (ℕ → Bool) → ℕ → Hold
hold_for body has c = cond (has c) (holding (length (body c))) empty

pub record Stored (w cap lo : ℕ) (body : ℕ → List ℕ) (has : ℕ → Bool) (m : Win Hold) (t : List ℕ) : Type 0 where
  pub holds : Holds w cap lo (hold_for body has) m
  pub sized : length t ≡ store_size w
  pub bytes : (c : ℕ) → m.base ≤ c → has c ≡ true → take (length (body c)) (drop (store_place w c) t) ≡ body c

pub is_held_lem : (body : ℕ → List ℕ) (has : ℕ → Bool) (c : ℕ) → is_held (hold_for body has c) ≡ has c
is_held_lem body has c = go (has c)
  where
    go : (b : Bool) → is_held (cond b (holding (length (body c))) empty) ≡ b
    go true = refl
    go false = refl

hold_one : (body : ℕ → List ℕ) (has : ℕ → Bool) (c : ℕ) → updated c (holding (length (body c))) (hold_for body has) ≡ hold_for body (with_one c has)
hold_one body has c = fun_ext λ x. ⊎_elim (λ t. there x (eqb-true x c t)) (λ t. elsewhere x (eqb-false x c t)) (bool (eqb x c))
  where
    there : (x : ℕ) → x ≡ c → updated c (holding (length (body c))) (hold_for body has) x ≡ hold_for body (with_one c has) x
    there x e =
        updated_at c (holding (length (body c))) (hold_for body has) x e
        ∙ ap (λ (y : ℕ). holding (length (body y))) (sym e)
        ∙ sym (ap (λ (b : Bool). cond b (holding (length (body x))) empty) (one_at c has x e))

    elsewhere : (x : ℕ) → (x ≡ c → ⊥) → updated c (holding (length (body c))) (hold_for body has) x ≡ hold_for body (with_one c has) x
    elsewhere x ne =
        updated_off c (holding (length (body c))) (hold_for body has) x ne
        ∙ sym (ap (λ (b : Bool). cond b (holding (length (body x))) empty) (one_off c has x ne))

module _ {w cap lo : ℕ} {body : ℕ → List ℕ} {has : ℕ → Bool} {m : Win Hold} {t : List ℕ} (pos : 0 < w) (fits : w ≤ cap)
    (h : Stored w cap lo body has m t) where
  -- what the places tell
  pub held_came : (c : ℕ) → m.base ≤ c → c < m.base + w → is_held (here empty w m c) ≡ has c
  held_came c l u = ap is_held (h.holds.weak.holds c l u) ∙ is_held_lem body has c

  came_short : (c : ℕ) → has c ≡ true → length (body c) ≤ place_size
  came_short c q =
      subst (λ (x : Hold). x.length ≤ place_size) (ap (λ (b : Bool). cond b (holding (length (body c))) empty) q)
      (h.holds.short c (is_held_lem body has c ∙ q))

  came_near : (c : ℕ) → has c ≡ true → c < lo + w
  came_near c q =
      ⊎_elim (λ lt. lt) (λ le. clash (has c) q (sym (is_held_lem body has c) ∙ ap is_held (h.holds.weak.beyond c le))) (lt_or_ge c (lo + w))

  -- a block below due
  pub stored_late : (c : ℕ) → c < m.base → c < lo + w → c ≤ highest → length (body c) ≤ place_size → Stored w cap lo body (with_one c has) m t
  stored_late c lt u range short =
      record {
        holds = subst (λ (f : ℕ → Hold). Holds w cap lo f m) (hold_one body has c) (holds_late pos fits h.holds c (length (body c)) lt u range short);
        sized = h.sized;
        bytes = λ x l q. h.bytes x l (sym (one_off c has x (λ e. omega arith)) ∙ q);
      }

  -- a block that is not held yet
  pub stored_new : (c : ℕ) → m.base ≤ c → c < lo + w → c ≤ highest → length (body c) ≤ place_size
      → Stored w cap lo body (with_one c has) (put empty w m c (holding (length (body c)))) (put_of t (store_place w c) (body c))
  stored_new c ge u range short =
      let room : store_place w c + length (body c) ≤ length t = omega (arith, h.sized, place_fits w c (length (body c)) pos short) in
      record {
        holds =
            subst (λ (f : ℕ → Hold). Holds w cap lo f (put empty w m c (holding (length (body c))))) (hold_one body has c)
            (holds_new pos fits h.holds c (length (body c)) ge u range short);
        sized = put_length t (store_place w c) (body c) room ∙ h.sized;
        bytes = λ x l q. ⊎_elim (λ e. there x (eqb-true x c e) room) (λ e. elsewhere x l q (eqb-false x c e) room) (bool (eqb x c));
      }
    where
      there : (x : ℕ) → x ≡ c → store_place w c + length (body c) ≤ length t
          → take (length (body x)) (drop (store_place w x) (put_of t (store_place w c) (body c))) ≡ body x
      there x e room =
          subst (λ (y : ℕ). take (length (body y)) (drop (store_place w y) (put_of t (store_place w c) (body c))) ≡ body y) (sym e)
          (part_laid t (store_place w c) (body c) room)

      elsewhere : (x : ℕ) → m.base ≤ x → with_one c has x ≡ true → (x ≡ c → ⊥) → store_place w c + length (body c) ≤ length t
          → take (length (body x)) (drop (store_place w x) (put_of t (store_place w c) (body c))) ≡ body x
      elsewhere x l q ne room =
          let came : has x ≡ true = sym (one_off c has x ne) ∙ q in
          let near = came_near x came in
          let from = h.holds.weak.from in
          part_other t (c % w) (body c) (x % w) (length (body x)) room short (came_short x came)
          (λ s. ne (place_same w m.base x c l (omega arith) ge (omega arith) s))
          ∙ h.bytes x l came

  -- the block due is taken
  pub stored_taken : has m.base ≡ true → Stored w cap lo body has (passed empty w m) t
  stored_taken q =
      record {
        holds = holds_taken pos fits h.holds (is_held_lem body has m.base ∙ q);
        sized = h.sized;
        bytes = λ x l k. h.bytes x (omega arith) k;
      }

  -- what is handed over
  pub stored_due : has m.base ≡ true → take (here empty w m m.base).length (drop (store_place w m.base) t) ≡ body m.base
  stored_due q =
      ap (λ (x : Hold). take x.length (drop (store_place w m.base) t))
      (h.holds.weak.holds m.base (omega arith) (omega arith) ∙ ap (λ (b : Bool). cond b (holding (length (body m.base))) empty) q)
      ∙ h.bytes m.base (omega arith) q

-- At the outset.

holding_is : (h : Hold) (n : ℕ) → is_held h ≡ true → h.length ≡ n → h ≡ holding n
holding_is h n p q = λ i. record { held = eqb-true h.held 1 p i; length = q i }

module _ {w cap : ℕ} (s : State) (body : ℕ → List ℕ) (pos : 0 < w) (k : Facts w cap s.receiver) (size : length s.store ≡ store_size w)
    (same : (c : ℕ) → held_in w s.receiver c ≡ true → body c ≡ contents w s c) where
  pub body_length : (c : ℕ) → held_in w s.receiver c ≡ true → length (body c) ≡ (hold_at w s.receiver c).length
  unfolding contents
  body_length c t =
      let (l, u, x) = in_held w s.receiver c t in
      ap length (same c t)
      ∙ part_length s.store (store_place w c) (hold_at w s.receiver c).length
      (omega (arith, size, place_fits w c (hold_at w s.receiver c).length pos (k.held_short c l u x)))

  hold_is : (c : ℕ) → hold_in w s.receiver c ≡ hold_for body (held_in w s.receiver) c
  hold_is c =
      ⊎_elim
      (λ i. ap (λ (b : Bool). cond b (hold_at w s.receiver c) empty) i ∙ within (in_window w s.receiver.due.0 c i))
      (λ i. ap (λ (b : Bool). cond b (hold_at w s.receiver c) empty) i ∙ wants false (held_out w s.receiver c i))
      (bool (inside w s.receiver.due.0 c))
    where
      wants : (b : Bool) → held_in w s.receiver c ≡ b → cond b (holding (length (body c))) empty ≡ hold_for body (held_in w s.receiver) c
      wants b t = sym (ap (λ (x : Bool). cond x (holding (length (body c))) empty) t)

      held : held_in w s.receiver c ≡ true → hold_at w s.receiver c ≡ holding (length (body c))
      held t = holding_is (hold_at w s.receiver c) (length (body c)) (in_held w s.receiver c t).2 (sym (body_length c t))

      within : (s.receiver.due.0 ≤ c) × (c < s.receiver.due.0 + w) → hold_at w s.receiver c ≡ hold_for body (held_in w s.receiver) c
      within (l, u) =
          ⊎_elim
          (λ t. held t ∙ wants true t)
          (λ t. k.not_held c l u (sym (held_in_lem w s.receiver c l u) ∙ t) ∙ wants false t)
          (bool (held_in w s.receiver c))

  pub stored_outset : Stored w cap s.receiver.due.0 body (held_in w s.receiver) (holds_of s.receiver) s.store
  unfolding contents
  stored_outset =
      record {
        holds =
            subst (λ (f : ℕ → Hold). Holds w cap s.receiver.due.0 f (holds_of s.receiver)) (fun_ext hold_is)
            (holds_outset w cap s.receiver k);
        sized = size;
        bytes = λ c l t. ap (λ (n : ℕ). take n (drop (store_place w c) s.store)) (body_length c t) ∙ sym (same c t);
      }
