-- What a walk tells of the numbers, over any window w: whether one was never sent, and which are flagged.
use Rattle.std.specs.Prelude.{Option, Some, None}
use Prim.Native.Nat.{ℕ, suc, ◌+◌, ◌-◌, ◌%◌, ◌≤◌, ◌<◌}
use mathlib.Core.Bool.{Bool, true, false, cond}
use mathlib.Core.List.{List, [], ◌∷◌}
use mathlib.Core.Logic.{⊎_elim}
use mathlib.Core.Path.{◌≡◌, refl, sym, ◌∙◌, ap}
use native.Mathlib.Omega.{arith}
use native.Mathlib.Nat.{mod-lt}
use lib.ListN.{length, get_or, set, length-set}
use lib.Seq.{get_or-set_same, get_or-set_other}
use lib.Dec.{leb, eqb}
use borrow.Author.Tests.{le-leb, lt-leb, leb-true, leb-false, eq-eqb, ne_eqb, eqb-true, eqb-false}
use Rattle.common.specs.Facts.{bool, clash, lt_or_ge}
use Rattle.wire.specs.Flags.{both, either}
use Rattle.window.specs.Places.{place_same}
use Rattle.sender.specs.Acknowledge.{names_unsent}
use Rattle.acknowledging.specs.Walk.{walk_of}

-- was a number named that was never sent, and which flags are set if not?
abbrev pub never_in : Option (List Bool) → Bool
never_in None = true
never_in (Some flags) = false

abbrev pub flags_left : Option (List Bool) → List Bool
flags_left None = []
flags_left (Some flags) = flags

-- the state that some states from n on give number m
abbrev pub state_at : List Bool → ℕ → ℕ → Bool
state_at ts n m = cond (leb n m) (get_or ts (m - n) false) false

either_no : (a : Bool) → either a false ≡ a
either_no true = refl
either_no false = refl

either_yes : (a : Bool) → either a true ≡ true
either_yes true = refl
either_yes false = refl

both_no : (a : Bool) → both a false ≡ false
both_no true = refl
both_no false = refl

either_of_lem : (a b c : Bool) → either (either a b) c ≡ either a (either b c)
either_of_lem true b c = refl
either_of_lem false b c = refl

state_none : (n m : ℕ) → state_at [] n m ≡ false
state_none n m = both_no (leb n m)

state_step : (t : Bool) (ts : List Bool) (n m : ℕ) → state_at (t ∷ ts) n m ≡ either (both t (eqb n m)) (state_at ts (n + 1) m)
state_step t ts n m = ⊎_elim below from (lt_or_ge m n)
  where
    below : m < n → state_at (t ∷ ts) n m ≡ either (both t (eqb n m)) (state_at ts (n + 1) m)
    below l =
        let e : leb n m ≡ false = lt-leb n m l in
        let f : leb (n + 1) m ≡ false = lt-leb (n + 1) m (omega arith) in
        let g : eqb n m ≡ false = ne_eqb n m (λ q. omega arith) in
        rw (e, f, g, both_no t) refl

    same : n ≡ m → state_at (t ∷ ts) n m ≡ either (both t (eqb n m)) (state_at ts (n + 1) m)
    same q =
        let e : leb n m ≡ true = le-leb n m (omega arith) in
        let f : leb (n + 1) m ≡ false = lt-leb (n + 1) m (omega arith) in
        let g : eqb n m ≡ true = eq-eqb n m q in
        let z : m - n ≡ 0 = omega arith in
        rw (e, f, g, z) (go t)
      where
        go : (b : Bool) → b ≡ either (both b true) false
        go true = refl
        go false = refl

    above : n < m → state_at (t ∷ ts) n m ≡ either (both t (eqb n m)) (state_at ts (n + 1) m)
    above l =
        let e : leb n m ≡ true = le-leb n m (omega arith) in
        let f : leb (n + 1) m ≡ true = le-leb (n + 1) m (omega arith) in
        let g : eqb n m ≡ false = ne_eqb n m (λ q. omega arith) in
        let z : m - n ≡ suc (m - (n + 1)) = omega arith in
        rw (e, f, g, both_no t, z) refl

    from : n ≤ m → state_at (t ∷ ts) n m ≡ either (both t (eqb n m)) (state_at ts (n + 1) m)
    from le = ⊎_elim above (λ ge. same (omega arith)) (lt_or_ge n m)

both_true : (a b : Bool) → both a b ≡ true → (a ≡ true) × (b ≡ true)
both_true true b h = (refl, h)
both_true false b h = clash false h refl

module _ (w : ℕ) where
  -- whether a number was never sent
  pub walk_never : (ts : List Bool) (n next low : ℕ) (flags : List Bool) → never_in (walk_of w ts n next low flags) ≡ names_unsent ts n next
  unfolding walk_of names_unsent
  walk_never [] n next low flags = refl
  walk_never (t ∷ ts) n next low flags =
      let k = walk_never ts (n + 1) next low (set flags (n % w) (cond (get_or flags (n % w) false) true (cond t (leb low n) false))) in
      ⊎_elim (λ (e : cond t (leb next n) false ≡ true). rw e refl) (λ (e : cond t (leb next n) false ≡ false). rw e k) (bool (cond t (leb next n) false))

  -- one state: the flag of number m afterwards
  flag_step : (t : Bool) (n next low : ℕ) (flags : List Bool) → length flags ≡ w → next ≤ low + w → both t (leb next n) ≡ false → (m : ℕ) → low ≤ m → m < low + w
      → get_or (set flags (n % w) (either (get_or flags (n % w) false) (both t (leb low n)))) (m % w) false ≡ either (get_or flags (m % w) false) (both t (eqb n m))
  flag_step t n next low flags sz room un m l u = ⊎_elim marks leaves (bool (both t (leb low n)))
    where
      new : Bool
      new = either (get_or flags (n % w) false) (both t (leb low n))

      small : n % w < length flags
      small = let k : n % w < w = mod-lt n (omega arith) in omega arith

      marks : both t (leb low n) ≡ true → get_or (set flags (n % w) new) (m % w) false ≡ either (get_or flags (m % w) false) (both t (eqb n m))
      marks x =
          let (tx, lx) = both_true t (leb low n) x in
          let ln : low ≤ n = leb-true low n lx in
          let nn : leb next n ≡ false = ap (λ (b : Bool). both b (leb next n)) (sym tx) ∙ un in
          let above : n < next = leb-false next n nn in
          ⊎_elim
          (λ (e : eqb n m ≡ true). let e2 = eqb-true n m e in
          ap (λ (z : ℕ). get_or (set flags (n % w) new) (z % w) false) (sym e2) ∙ get_or-set_same flags (n % w) new false small
          ∙ ap (λ (b : Bool). either (get_or flags (n % w) false) b) x ∙ either_yes (get_or flags (n % w) false) ∙ sym (either_yes (get_or flags (m % w) false))
          ∙ ap (λ (b : Bool). either (get_or flags (m % w) false) b) (sym (ap (λ (b : Bool). both b (eqb n m)) tx ∙ e)))
          (λ (e : eqb n m ≡ false). let ne = eqb-false n m e in
          get_or-set_other flags (n % w) (m % w) new false (λ z. ne (sym (place_same w low m n l u ln (omega arith) z)))
          ∙ sym (ap (λ (b : Bool). either (get_or flags (m % w) false) b) (ap (λ (b : Bool). both b (eqb n m)) tx ∙ e) ∙ either_no (get_or flags (m % w) false)))
          (bool (eqb n m))

      off : both t (leb low n) ≡ false → both t (eqb n m) ≡ false
      off x =
          ⊎_elim
          (λ (e : eqb n m ≡ true). ap (λ (b : Bool). both t b) (e ∙ sym (le-leb low n (omega (arith, eqb-true n m e)))) ∙ x)
          (λ (e : eqb n m ≡ false). ap (λ (b : Bool). both t b) e ∙ both_no t)
          (bool (eqb n m))

      leaves : both t (leb low n) ≡ false → get_or (set flags (n % w) new) (m % w) false ≡ either (get_or flags (m % w) false) (both t (eqb n m))
      leaves x =
          let nw : new ≡ get_or flags (n % w) false = ap (λ (b : Bool). either (get_or flags (n % w) false) b) x ∙ either_no (get_or flags (n % w) false) in
          let same : get_or (set flags (n % w) new) (m % w) false ≡ get_or flags (m % w) false =
          ⊎_elim
          (λ e. let e2 = eqb-true (m % w) (n % w) e in
          ap (λ (z : ℕ). get_or (set flags (n % w) new) z false) e2 ∙ get_or-set_same flags (n % w) new false small ∙ nw ∙ ap (λ (z : ℕ). get_or flags z false) (sym e2))
          (λ e. get_or-set_other flags (n % w) (m % w) new false (eqb-false (m % w) (n % w) e))
          (bool (eqb (m % w) (n % w))) in
          same ∙ sym (ap (λ (b : Bool). either (get_or flags (m % w) false) b) (off x) ∙ either_no (get_or flags (m % w) false))

  -- A walk that ends flags the named numbers from low on.
  pub walk_flags : (ts : List Bool) (n next low : ℕ) (flags : List Bool) → length flags ≡ w → next ≤ low + w → names_unsent ts n next ≡ false → (m : ℕ) → low ≤ m → m < low + w
      → get_or (flags_left (walk_of w ts n next low flags)) (m % w) false ≡ either (get_or flags (m % w) false) (state_at ts n m)
  unfolding walk_of names_unsent
  walk_flags [] n next low flags sz room un m l u = sym (ap (either (get_or flags (m % w) false)) (state_none n m) ∙ either_no (get_or flags (m % w) false))
  walk_flags (t ∷ ts) n next low flags sz room un m l u =
      let new = either (get_or flags (n % w) false) (both t (leb low n)) in
      ⊎_elim
      (λ (x : both t (leb next n) ≡ true). clash (cond (both t (leb next n)) true (names_unsent ts (n + 1) next)) (ap (λ (b : Bool). cond b true (names_unsent ts (n + 1) next)) x) un)
      (λ (x : both t (leb next n) ≡ false).
      let rest : names_unsent ts (n + 1) next ≡ false = ap (λ (b : Bool). cond b true (names_unsent ts (n + 1) next)) (sym x) ∙ un in
      let k = walk_flags ts (n + 1) next low (set flags (n % w) new) (length-set flags (n % w) new ∙ sz) room rest m l u in
      ap (λ (b : Bool). get_or (flags_left (cond b None (walk_of w ts (n + 1) next low (set flags (n % w) new)))) (m % w) false) x ∙ k
      ∙ ap (λ (b : Bool). either b (state_at ts (n + 1) m)) (flag_step t n next low flags sz room x m l u)
      ∙ either_of_lem (get_or flags (m % w) false) (both t (eqb n m)) (state_at ts (n + 1) m) ∙ ap (either (get_or flags (m % w) false)) (sym (state_step t ts n m)))
      (bool (both t (leb next n)))
