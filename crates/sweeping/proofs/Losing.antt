-- The one pass of a sweep: a law for each of its steps, and one for each way out of the call, over any window w.
use Rattle.std.specs.Prelude.{Result, Ok, Err}
use Prim.Native.Nat.{ℕ, zero, suc, ◌+◌, ◌-◌, ◌%◌, ◌≤◌, ◌<◌}
use mathlib.Core.Bool.{Bool, true, false, cond}
use mathlib.Core.List.{List, [], ◌∷◌}
use mathlib.Core.Logic.{⊎_elim}
use mathlib.Core.Path.{◌≡◌, refl, sym, ◌∙◌, ap, subst}
use native.Mathlib.Omega.{arith}
use native.Mathlib.Nat.{add-zero, mod-lt}
use native.Mathlib.Numerals.{add-one}
use lib.ListN.{get_or, set, replicate, length-set, length-replicate}
use lib.Seq.{get_or-set_same, get_or-set_other}
use lib.Dec.{eqb, leb, ltb}
use borrow.Author.Tests.{lt-ltb, le-ltb, eqb-true, eqb-false}
use Rattle.common.specs.declared.Refusal.{Refusal}
use Rattle.common.specs.declared.Refusal.TheVariants.{Unsound}
use Rattle.common.specs.Answer.{settled, settled_refused}
use Rattle.common.specs.Every.{every, count_below}
use Rattle.common.specs.Facts.{bool, lt_or_ge}
use Rattle.common.specs.Order.{first}
use Rattle.numbers.specs.Age.{reaches}
use Rattle.window.specs.Places.{place_same}
use Rattle.sender.specs.declared.Sender.{Sender}
use Rattle.sender.specs.Record.{is_pending, is_received, number_at}
use Rattle.sender.specs.Consistent.{consistent_of}
use Rattle.sender.specs.Turn.{turned_of}
use Rattle.turning.specs.Chosen.{chosen_by}
use Rattle.sender.specs.Sweep.{losing, above, higher_received, loses_at, becomes_lost, sweep_answer, sweep_count, sweep_of}
use Rattle.sweeping.specs.FlagsLost.{FlagsLostIn}
use Rattle.common.specs.CountLaws.{one, count_none, count_next}
use Rattle.turning.proofs.Turned.{chosen_flag, turned_ext}

two : (a b : Bool) → every (a ∷ b ∷ []) ≡ cond a b false
unfolding every
two true true = refl
two true false = refl
two false b = refl

three : (a b c : Bool) → every (a ∷ b ∷ c ∷ []) ≡ cond a (cond b c false) false
unfolding every
three true true true = refl
three true true false = refl
three true false c = refl
three false b c = refl

one_least : (b : Bool) → one b ≤ 1
one_least true = omega arith
one_least false = omega arith

one_both : (a b : Bool) (n : ℕ) → cond a (cond b (n + 1) n) n ≡ n + one (cond a b false)
one_both true true n = refl
one_both true false n = sym (add-zero n)
one_both false b n = sym (add-zero n)

up : (low k n : ℕ) → low + k ≤ n → (n ≡ low + k → ⊥) → low + (k + 1) ≤ n
up low k n a z = ⊎_elim (λ lt. omega arith) (λ ge. absurd (z (omega arith))) (lt_or_ge (low + k) n)

module _ (w : ℕ) where
  -- the i-th number from low on is in range and received
  unfoldable pub seen : Sender → ℕ → Bool
  seen s i = cond (ltb (s.low.0 + i) s.next.0) (is_received (number_at w s (s.low.0 + i))) false

  above_is : (s : Sender) (n i : ℕ) → above w s n i ≡ cond (ltb n (s.low.0 + i)) (seen s i) false
  unfolding above seen
  above_is s n i = three (ltb n (s.low.0 + i)) (ltb (s.low.0 + i) s.next.0) (is_received (number_at w s (s.low.0 + i)))

  -- Up to the k-th number nothing counts as above it, and from there on all that is seen.
  above_none : (s : Sender) (k m : ℕ) → m ≤ k + 1 → count_below (above w s (s.low.0 + k)) m ≡ 0
  above_none s k zero l = count_none _
  above_none s k (suc m) l =
      let h : count_below (above w s (s.low.0 + k)) m ≡ 0 = above_none s k m (omega arith) in
      let e : count_below (above w s (s.low.0 + k)) (suc m) ≡ count_below (above w s (s.low.0 + k)) m + one (above w s (s.low.0 + k) m) =
      ap (count_below (above w s (s.low.0 + k))) (sym (add-one m)) ∙ count_next (above w s (s.low.0 + k)) m in
      let o : one (above w s (s.low.0 + k) m) ≡ 0 =
      ap one (above_is s (s.low.0 + k) m ∙ ap (λ (b : Bool). cond b (seen s m) false) (le-ltb (s.low.0 + k) (s.low.0 + m) (omega arith))) in
      omega arith

  above_rest : (s : Sender) (k d : ℕ) → count_below (above w s (s.low.0 + k)) (k + 1 + d) + count_below (seen s) (k + 1) ≡ count_below (seen s) (k + 1 + d)
  above_rest s k zero =
      let e : count_below (above w s (s.low.0 + k)) (k + 1 + 0) ≡ count_below (above w s (s.low.0 + k)) (k + 1) =
      ap (count_below (above w s (s.low.0 + k))) (add-zero (k + 1)) in
      let f : count_below (seen s) (k + 1 + 0) ≡ count_below (seen s) (k + 1) = ap (count_below (seen s)) (add-zero (k + 1)) in
      omega (arith, above_none s k (k + 1) (omega arith))
  above_rest s k (suc d) =
      let h : count_below (above w s (s.low.0 + k)) (k + 1 + d) + count_below (seen s) (k + 1) ≡ count_below (seen s) (k + 1 + d) = above_rest s k d in
      let q : k + 1 + suc d ≡ k + 1 + d + 1 = omega arith in
      let e : count_below (above w s (s.low.0 + k)) (k + 1 + suc d)
      ≡ count_below (above w s (s.low.0 + k)) (k + 1 + d) + one (above w s (s.low.0 + k) (k + 1 + d)) =
      ap (count_below (above w s (s.low.0 + k))) q ∙ count_next (above w s (s.low.0 + k)) (k + 1 + d) in
      let f : count_below (seen s) (k + 1 + suc d) ≡ count_below (seen s) (k + 1 + d) + one (seen s (k + 1 + d)) =
      ap (count_below (seen s)) q ∙ count_next (seen s) (k + 1 + d) in
      let o : one (above w s (s.low.0 + k) (k + 1 + d)) ≡ one (seen s (k + 1 + d)) =
      ap one (above_is s (s.low.0 + k) (k + 1 + d) ∙ ap (λ (b : Bool). cond b (seen s (k + 1 + d)) false) (lt-ltb (s.low.0 + k) (s.low.0 + (k + 1 + d)) (omega arith))) in
      omega arith

  -- The running count is that of the higher numbers that are received.
  higher_is : (s : Sender) (k higher : ℕ) → k < w → higher + count_below (seen s) (k + 1) ≡ count_below (seen s) w → higher ≡ higher_received w s (s.low.0 + k)
  unfolding higher_received
  higher_is s k higher l h =
      let d : k + 1 + (w - (k + 1)) ≡ w = omega arith in
      let r = above_rest s k (w - (k + 1)) in
      let e : count_below (above w s (s.low.0 + k)) (k + 1 + (w - (k + 1))) ≡ count_below (above w s (s.low.0 + k)) w =
      ap (count_below (above w s (s.low.0 + k))) d in
      let f : count_below (seen s) (k + 1 + (w - (k + 1))) ≡ count_below (seen s) w = ap (count_below (seen s)) d in
      omega (arith, r)

  -- where i numbers from low on are left: the flags of the others, and the running counts of those that become lost and of those that are received
  pub record Passed (s : Sender) (tick : ℕ) (flags : List Bool) (count higher i : ℕ) : Type 0 where
    pub flagged : FlagsLostIn w s tick flags i
    pub counted : count + count_below (becomes_lost w s tick) i ≡ count_below (becomes_lost w s tick) w
    pub received : higher + count_below (seen s) i ≡ count_below (seen s) w
    pub count_fits : count + i ≤ w
    pub higher_fits : higher + i ≤ w

  -- what the code finds at the k-th number, and both counts after it
  pub record Step (s : Sender) (tick k count higher : ℕ) (lost : Bool) (countafter higherafter : ℕ) : Type 0 where
    pub judged : lost ≡ cond (leb 3 higher) true (reaches s.timeout tick (number_at w s (s.low.0 + k)).tick)
    pub counts : countafter ≡ cond (is_pending (number_at w s (s.low.0 + k))) (cond lost (count + 1) count) count
    pub receives : higherafter ≡ cond (ltb (s.low.0 + k) s.next.0) (cond (is_received (number_at w s (s.low.0 + k))) (higher + 1) higher) higher

  one_lost : (s : Sender) (tick k n : ℕ) (lost : Bool) → lost ≡ loses_at w s tick (s.low.0 + k)
      → cond (is_pending (number_at w s (s.low.0 + k))) (cond lost (n + 1) n) n ≡ n + one (becomes_lost w s tick k)
  unfolding becomes_lost
  one_lost s tick k n lost e =
      one_both (is_pending (number_at w s (s.low.0 + k))) lost n
      ∙ ap (λ (b : Bool). n + one (cond (is_pending (number_at w s (s.low.0 + k))) b false)) e
      ∙ ap (λ (b : Bool). n + one b) (sym (two (is_pending (number_at w s (s.low.0 + k))) (loses_at w s tick (s.low.0 + k))))

  one_seen : (s : Sender) (k n : ℕ) → cond (ltb (s.low.0 + k) s.next.0) (cond (is_received (number_at w s (s.low.0 + k))) (n + 1) n) n ≡ n + one (seen s k)
  unfolding seen
  one_seen s k n = one_both (ltb (s.low.0 + k) s.next.0) (is_received (number_at w s (s.low.0 + k))) n

  lost_is : (s : Sender) (tick k higher : ℕ) (lost : Bool) → higher ≡ higher_received w s (s.low.0 + k)
      → lost ≡ cond (leb 3 higher) true (reaches s.timeout tick (number_at w s (s.low.0 + k)).tick) → lost ≡ loses_at w s tick (s.low.0 + k)
  unfolding loses_at
  lost_is s tick k higher lost h e = e ∙ ap (λ (m : ℕ). cond (leb 3 m) true (reaches s.timeout tick (number_at w s (s.low.0 + k)).tick)) h

  flags_next : (s : Sender) (tick : ℕ) (flags : List Bool) (k : ℕ) (lost : Bool) → k < w → FlagsLostIn w s tick flags (k + 1) → lost ≡ loses_at w s tick (s.low.0 + k)
      → FlagsLostIn w s tick (set flags ((s.low.0 + k) % w) lost) k
  flags_next s tick flags k lost l h t =
      record {
        size = length-set flags ((s.low.0 + k) % w) lost ∙ h.size;
        holds = λ n a b. ⊎_elim
            (λ q. let z = eqb-true n (s.low.0 + k) q in
            ap (λ (m : ℕ). get_or (set flags ((s.low.0 + k) % w) lost) (m % w) false) z
            ∙ get_or-set_same flags ((s.low.0 + k) % w) lost false (let m : (s.low.0 + k) % w < w = mod-lt (s.low.0 + k) (omega arith) in omega (arith, h.size))
            ∙ t ∙ ap (loses_at w s tick) (sym z))
            (λ q. let z = eqb-false n (s.low.0 + k) q in
            get_or-set_other flags ((s.low.0 + k) % w) (n % w) lost false
            (λ y. z (place_same w s.low.0 n (s.low.0 + k) (omega arith) b (omega arith) (omega arith) y))
            ∙ h.holds n (up s.low.0 k n a z) b)
            (bool (eqb n (s.low.0 + k)));
      }

  pub passed_none : (s : Sender) (tick : ℕ) → Passed s tick (replicate w false) 0 0 w
  passed_none s tick =
      record {
        flagged = record { size = length-replicate w false; holds = λ n l u. absurd (omega arith) };
        counted = omega arith;
        received = omega arith;
        count_fits = omega arith;
        higher_fits = omega arith;
      }

  pub passed_next : (s : Sender) (tick : ℕ) (flags : List Bool) (count higher i k : ℕ) (lost : Bool) (countafter higherafter : ℕ) → i ≡ k + 1
      → Passed s tick flags count higher i → Step s tick k count higher lost countafter higherafter
      → Passed s tick (set flags ((s.low.0 + k) % w) lost) countafter higherafter k
  passed_next s tick flags count higher i k lost countafter higherafter e h p =
      let r : higher + count_below (seen s) (k + 1) ≡ count_below (seen s) w = ap (λ (m : ℕ). higher + count_below (seen s) m) (sym e) ∙ h.received in
      let c : count + count_below (becomes_lost w s tick) (k + 1) ≡ count_below (becomes_lost w s tick) w =
      ap (λ (m : ℕ). count + count_below (becomes_lost w s tick) m) (sym e) ∙ h.counted in
      let f = h.count_fits in
      let g = h.higher_fits in
      let t : lost ≡ loses_at w s tick (s.low.0 + k) = lost_is s tick k higher lost (higher_is s k higher (omega arith) r) p.judged in
      let x : countafter ≡ count + one (becomes_lost w s tick k) = p.counts ∙ one_lost s tick k count lost t in
      let y : higherafter ≡ higher + one (seen s k) = p.receives ∙ one_seen s k higher in
      record {
        flagged = flags_next s tick flags k lost (omega arith) (subst (FlagsLostIn w s tick flags) e h.flagged) t;
        counted = omega (arith, count_next (becomes_lost w s tick) k);
        received = omega (arith, count_next (seen s) k);
        count_fits = omega (arith, one_least (becomes_lost w s tick k));
        higher_fits = omega (arith, one_least (seen s k));
      }

  -- the whole pass
  pub passed_all : (s : Sender) (tick : ℕ) (flags : List Bool) (count higher i : ℕ) → i ≡ 0 → Passed s tick flags count higher i
      → (count ≡ count_below (becomes_lost w s tick) w) × FlagsLostIn w s tick flags 0
  passed_all s tick flags count higher i e h =
      let z : count_below (becomes_lost w s tick) i ≡ 0 = ap (count_below (becomes_lost w s tick)) e ∙ count_none _ in
      (omega (arith, h.counted), subst (FlagsLostIn w s tick flags) e h.flagged)

  -- the whole call: how many became lost, and the record
  abbrev pub Sweeps : Sender → ℕ → Result ℕ Refusal → Sender → Type 0
  Sweeps s tick lost q = (lost ≡ settled (sweep_answer w w s) (sweep_count w w s tick)) × (q ≡ sweep_of w w s tick)

  pub swept_unfit : (s : Sender) (tick : ℕ) → consistent_of w w s ≡ false → Sweeps s tick (Err Unsound) s
  unfolding sweep_answer sweep_of first
  swept_unfit s tick h = (settled_refused Unsound _ _ (rw h refl), rw h refl)

  pub swept_fit : (s q : Sender) (tick count : ℕ) (flags : List Bool) → consistent_of w w s ≡ true → count ≡ count_below (becomes_lost w s tick) w → FlagsLostIn w s tick flags 0
      → q ≡ turned_of w losing (chosen_by w flags 0) s → Sweeps s tick (Ok count) q
  unfolding sweep_answer sweep_count sweep_of first
  swept_fit s q tick count flags h e l r =
      let t : q ≡ turned_of w losing (loses_at w s tick) s =
      r ∙ turned_ext w losing (chosen_by w flags 0) (loses_at w s tick) s (λ n a b. chosen_flag w flags n ∙ l.holds n (omega arith) b) in
      (rw (h, e) refl, rw h t)
