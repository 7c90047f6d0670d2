-- The marks by which a walk over the numbers tells how many pending numbers carry each block.
use Prim.Native.Nat.{ℕ, ◌+◌, ◌-◌, ◌%◌, ◌≤◌, ◌<◌}
use mathlib.Core.Bool.{Bool, true, false, cond}
use mathlib.Core.List.{List, [], ◌∷◌}
use mathlib.Core.Logic.{⊎_elim}
use mathlib.Core.Path.{◌≡◌, refl, sym, ◌∙◌, ap, subst}
use native.Mathlib.Omega.{arith}
use native.Mathlib.Nat.{mod-lt}
use lib.ListN.{length, get_or, set, replicate, length-set, length-replicate}
use lib.Seq.{get_or-set_same, get_or-set_other}
use lib.Dec.{leb, eqb}
use borrow.Author.Tests.{lt-leb, leb-true, ltb-true, eqb-true, eqb-false, eq-eqb, ne_eqb}
use Rattle.common.specs.Every.{every, all_below, count_below}
use Rattle.common.specs.Facts.{lt_or_ge, bool, clash, not_so}
use Rattle.window.specs.Places.{place_same, always}
use Rattle.sender.specs.declared.NumberPlace.{NumberPlace}
use Rattle.sender.specs.declared.BlockPlace.{BlockPlace}
use Rattle.sender.specs.declared.Sender.{Sender}
use Rattle.sender.specs.Record.{longest_sent, most_sends, is_pending, is_in_flight, number_at, block_at}
use Rattle.sender.specs.Consistent.{pending_tests, number_fits, block_fits, carries, one_carrier, number_ok, block_ok}
use Rattle.sender_checking.specs.Checking.{Marked}
use Rattle.sender.specs.PlaceTests.{zero_number_lem, number_past, number_pending}
use Rattle.common.specs.EveryLaws.{every_at, all_fails}
use Rattle.common.specs.CountLaws.{one, count_none, count_next, count_grows}
use Rattle.sender_checking.proofs.Passing.{Range}

-- what a place that fits tells of a pending number
pub record Pending (p : NumberPlace) (fly : Bool) (n next channellow channelnext : ℕ) : Type 0 where
  pub within : n < next
  pub least : channellow ≤ p.channel.0
  pub most : p.channel.0 < channelnext
  pub flies : fly ≡ true

pending_facts : (p : NumberPlace) (fly : Bool) (n next first channellow channelnext : ℕ) → number_fits p fly n next first channellow channelnext ≡ true
    → is_pending p ≡ true → Pending p fly n next channellow channelnext
pending_facts p fly n next first channellow channelnext h t = ⊎_elim inside past (lt_or_ge n next)
  where
    inside : n < next → Pending p fly n next channellow channelnext
    inside l =
        let ts : List Bool = pending_tests p fly channellow channelnext in
        let r : (i : ℕ) → get_or ts i true ≡ true = every_at ts (sym (number_pending p fly n next first channellow channelnext l t) ∙ h) in
        record { within = l; least = leb-true _ _ (r 0); most = ltb-true _ _ (r 1); flies = r 2 }

    past : next ≤ n → Pending p fly n next channellow channelnext
    past l = clash (is_pending p) t (ap (λ (x : NumberPlace). is_pending x) (zero_number_lem p (sym (number_past p fly n next first channellow channelnext l) ∙ h)))

pub mark_none : (w : ℕ) (s : Sender) → Marked w s (replicate w false) 0
mark_none w s =
    record {
      size = length-replicate w false;
      counts = λ c l u. ap one (always w (c % w) false) ∙ sym (count_none (carries w s c));
    }

-- the i-th number from low on, and the place of its block
abbrev nth : ℕ → Sender → ℕ → NumberPlace
nth w s i = number_at w s (s.low.0 + i)

abbrev place : ℕ → Sender → ℕ → ℕ
place w s i = (nth w s i).channel.0 % w

carries_is : (w : ℕ) (s : Sender) (c i : ℕ) (t : Bool) → is_pending (nth w s i) ≡ t → carries w s c i ≡ cond t (eqb (nth w s i).channel.0 c) false
unfolding carries every
carries_is w s c i true e = rw e (go (eqb (nth w s i).channel.0 c))
  where
    go : (b : Bool) → cond b true false ≡ b
    go true = refl
    go false = refl
carries_is w s c i false e = rw e refl

pub carries_not : (w : ℕ) (s : Sender) (c i : ℕ) → is_pending (nth w s i) ≡ false → carries w s c i ≡ false
carries_not w s c i e = carries_is w s c i false e

abbrev marked : ℕ → Sender → List Bool → ℕ → Bool
marked w s marks i = get_or marks (place w s i) false

place_fits : (w : ℕ) (s : Sender) (marks : List Bool) (i : ℕ) → 0 < w → Marked w s marks i → place w s i < length marks
place_fits w s marks i lw h = let l : place w s i < w = mod-lt (nth w s i).channel.0 lw in omega (arith, h.size)

pub mark_other : (w : ℕ) (s : Sender) (marks : List Bool) (i : ℕ) → Marked w s marks i → is_pending (nth w s i) ≡ false → Marked w s marks (i + 1)
mark_other w s marks i h e =
    record {
      size = h.size;
      counts = λ c l u.
          let z : one (carries w s c i) ≡ 0 = ap one (carries_is w s c i false e) in
          let n = count_next (carries w s c) i in
          let k = h.counts c l u in
          omega arith;
    }

pub mark_pending : (w : ℕ) (s : Sender) (marks : List Bool) (i : ℕ) → Range w s.firstchannel.0 s.channellow.0 s.channelnext.0 → number_ok w s i ≡ true → Marked w s marks i
    → is_pending (nth w s i) ≡ true → marked w s marks i ≡ false → Marked w s (set marks (place w s i) true) (i + 1)
unfolding number_ok
mark_pending w s marks i r ok h e was =
    let f = pending_facts _ _ _ _ _ _ _ ok e in
    record {
      size = length-set marks (place w s i) true ∙ h.size;
      counts = λ c l u.
          let n = count_next (carries w s c) i in
          let k = h.counts c l u in
          let pf : carries w s c i ≡ eqb (nth w s i).channel.0 c = carries_is w s c i true e in
          ⊎_elim
          (λ q.
          let q2 : (nth w s i).channel.0 ≡ c = eqb-true _ _ q in
          let o : one (get_or (set marks (place w s i) true) (c % w) false) ≡ 1 =
          ap one (ap (λ (j : ℕ). get_or (set marks (place w s i) true) (j % w) false) (sym q2) ∙ get_or-set_same marks (place w s i) true false (place_fits w s marks i (omega arith) h)) in
          let o2 : one (carries w s c i) ≡ 1 = ap one (pf ∙ q) in
          let o3 : one (get_or marks (c % w) false) ≡ 0 = ap (λ (j : ℕ). one (get_or marks (j % w) false)) (sym q2) ∙ ap one was in
          omega arith)
          (λ q.
          let ne : (nth w s i).channel.0 ≡ c → ⊥ = eqb-false _ _ q in
          let same : get_or (set marks (place w s i) true) (c % w) false ≡ get_or marks (c % w) false =
          get_or-set_other marks (place w s i) (c % w) true false (λ z. ne (sym (place_same w s.channellow.0 c (nth w s i).channel.0 l u f.least (omega (arith, f.most, r.room)) z))) in
          let o = ap one same in
          let o2 : one (carries w s c i) ≡ 0 = ap one (pf ∙ q) in
          omega arith)
          (bool (eqb (nth w s i).channel.0 c));
    }

single_fails : (b : BlockPlace) (single : Bool) (c channelnext : ℕ) → c < channelnext → is_in_flight b ≡ true → single ≡ false → block_fits b single c channelnext ≡ false
unfolding block_fits
single_fails b single c channelnext l fl e =
    rw (lt-leb _ _ l, fl, e) (not_so _ (λ h. clash false (every_at (leb b.length longest_sent ∷ leb 1 b.sends ∷ leb b.sends most_sends ∷ false ∷ []) h 3) refl))

-- A second pending number for one block: that block does not fit.
pub mark_twice : (w : ℕ) (s : Sender) (marks : List Bool) (i : ℕ) → i < w → Range w s.firstchannel.0 s.channellow.0 s.channelnext.0 → number_ok w s i ≡ true → Marked w s marks i
    → is_pending (nth w s i) ≡ true → marked w s marks i ≡ true → all_below (block_ok w s) w ≡ false
unfolding number_ok block_ok one_carrier
mark_twice w s marks i li r ok h p m =
    let ch : ℕ = (nth w s i).channel.0 in
    let f = pending_facts _ _ _ _ _ _ _ ok p in
    let back : s.channellow.0 + (ch - s.channellow.0) ≡ ch = omega (arith, f.least) in
    let o : one (get_or marks (ch % w) false) ≡ 1 = ap one m in
    let k = h.counts ch f.least (omega (arith, f.most, r.room)) in
    let n = count_next (carries w s ch) i in
    let o2 : one (carries w s ch i) ≡ 1 = ap one (carries_is w s ch i true p ∙ eq-eqb ch ch refl) in
    let g = count_grows (carries w s ch) (i + 1) (w - (i + 1)) in
    let top : i + 1 + (w - (i + 1)) ≡ w = omega arith in
    let g2 : count_below (carries w s ch) (i + 1) ≤ count_below (carries w s ch) w = subst (λ (z : ℕ). count_below (carries w s ch) (i + 1) ≤ count_below (carries w s ch) z) top g in
    let two : eqb (count_below (carries w s ch) w) 1 ≡ false = ne_eqb _ _ (λ (q : count_below (carries w s ch) w ≡ 1). omega arith) in
    sym (all_fails (block_ok w s) w (ch - s.channellow.0) (omega (arith, f.most, f.least, r.room))
    (subst (λ (c : ℕ). block_fits (block_at w s c) (eqb (count_below (carries w s c) w) 1) c s.channelnext.0 ≡ false) (sym back)
    (single_fails (block_at w s ch) _ ch s.channelnext.0 f.most f.flies two)))

one_eqb : (m : Bool) (k : ℕ) → one m ≡ k → m ≡ eqb k 1
one_eqb true k e = sym (eq-eqb k 1 (sym e))
one_eqb false k e = sym (ne_eqb k 1 (λ q. let z : ◌≡◌ {A = ℕ} 0 k = e in omega arith))

-- All numbers walked: a mark says that exactly one pending number carries the block.
pub marks_single : (w : ℕ) (s : Sender) (marks : List Bool) → Marked w s marks w → (c : ℕ) → s.channellow.0 ≤ c → c < s.channellow.0 + w → one_carrier w s c ≡ get_or marks (c % w) false
unfolding one_carrier
marks_single w s marks h c l u = sym (one_eqb _ _ (h.counts c l u))

pub number_judged_lem : (w : ℕ) (s : Sender) (i : ℕ) (r t : Bool) → s.low.0 + i < s.next.0
    → r ≡ number_fits (nth w s i) (is_in_flight (block_at w s (nth w s i).channel.0)) 0 1 s.firstchannel.0 s.channellow.0 s.channelnext.0 → r ≡ t → number_ok w s i ≡ t
unfolding number_ok number_fits
number_judged_lem w s i r t l e h = rw (lt-leb s.next.0 (s.low.0 + i) l) (sym e ∙ h)
