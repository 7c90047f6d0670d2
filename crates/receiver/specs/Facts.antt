-- What a consistent record is, as facts on numbers; the tests of Consistent.antt say exactly these.
use Rattle.std.specs.Prelude.{ℕ, ◌+◌, ◌-◌, ◌≤◌, ◌<◌, Bool, true, false, cond, [], ◌∷◌, ◌⊎◌, ◌≡◌, refl, eqb, leb, ltb, length, get_or}
use Rattle.std.proofs.Common.{inl, inr, ⊎_elim, ap, arith, lt-ltb, ltb-true, le-leb, leb-true, eq-eqb, eqb-true}
use Rattle.std.proofs.Math.ListN.{get_or-eq_default}
use Rattle.std.proofs.lemmas.Bool.{not-true}
use Rattle.common.specs.Every.{every, all_below, implies}
use Rattle.common.specs.EveryLaws.{every_all, all_every, all_at, all_from, implied, imply}
use Rattle.common.specs.Facts.{lt_or_ge, clash}
use Rattle.numbers.specs.Full.{highest, past_highest, highest_first}
use Rattle.window.specs.Store.{place_size, store_size, sound_with}
use Rattle.window.specs.Places.{at_number}
use Rattle.receiver.specs.declared.Hold.{Hold}
use Rattle.receiver.specs.declared.Receiver.{Receiver}
use Rattle.receiver.specs.Record.{is_marked, is_held, empty, mark_at, hold_at}
use Rattle.receiver.specs.Consistent.{bound_tests, bounds_fit, is_flag, mark_fits, held_tests, zero_tests, hold_fits, mark_ok, hold_ok, spare_mark, spare_hold, consistency_tests, consistent_of, sound_of}

-- w places are in use, of cap; n is a data number of the window from base on, c a channel number of the window from due on
pub record Facts (w cap : ℕ) (r : Receiver) : Type 0 where
  pub marks_size : length r.marks ≡ cap
  pub holds_size : length r.holds ≡ cap
  pub first_data : r.firstdata.0 ≤ highest_first
  pub first_channel : r.firstchannel.0 ≤ highest_first
  pub base_from : r.firstdata.0 ≤ r.base.0
  pub base_range : r.base.0 ≤ past_highest
  pub end_from : r.firstdata.0 ≤ r.end.0
  pub end_range : r.end.0 ≤ past_highest
  pub due_from : r.firstchannel.0 ≤ r.due.0
  pub due_range : r.due.0 ≤ past_highest
  pub base_stands : is_marked (mark_at w r r.base.0) ≡ false
  pub end_near : r.end.0 ≤ r.base.0 + w
  pub end_marked : r.base.0 < r.end.0 → is_marked (mark_at w r (r.end.0 - 1)) ≡ true
  pub mark_flag : (n : ℕ) → r.base.0 ≤ n → n < r.base.0 + w → mark_at w r n ≤ 1
  pub marks_end : (n : ℕ) → r.base.0 ≤ n → n < r.base.0 + w → is_marked (mark_at w r n) ≡ true → n < r.end.0
  pub held_short : (c : ℕ) → r.due.0 ≤ c → c < r.due.0 + w → is_held (hold_at w r c) ≡ true → (hold_at w r c).length ≤ place_size
  pub held_range : (c : ℕ) → r.due.0 ≤ c → c < r.due.0 + w → is_held (hold_at w r c) ≡ true → c ≤ highest
  pub not_held : (c : ℕ) → r.due.0 ≤ c → c < r.due.0 + w → is_held (hold_at w r c) ≡ false → hold_at w r c ≡ empty
  pub marks_spare : (i : ℕ) → w ≤ i → get_or r.marks i 0 ≡ 0
  pub holds_spare : (i : ℕ) → w ≤ i → get_or r.holds i empty ≡ empty

is_empty : (h : Hold) → h.held ≡ 0 → h.length ≡ 0 → h ≡ empty
is_empty h p q = λ i. record { held = p i; length = q i }

-- What the test of each place says, and how it is passed.
mark_says : (w : ℕ) (r : Receiver) (i : ℕ) → mark_ok w r i ≡ true
    → (mark_at w r (r.base.0 + i) ≤ 1) × (is_marked (mark_at w r (r.base.0 + i)) ≡ true → r.base.0 + i < r.end.0)
unfolding mark_ok mark_fits
mark_says w r i h =
    let m : ℕ = mark_at w r (r.base.0 + i) in
    let q = every_all (is_flag m ∷ implies (is_marked m) (ltb (r.base.0 + i) r.end.0) ∷ []) h in
    (leb-true m 1 q.0, λ t. ltb-true (r.base.0 + i) r.end.0 (implied (is_marked m) (ltb (r.base.0 + i) r.end.0) q.1.0 t))

mark_passes : (w : ℕ) (r : Receiver) (i : ℕ) → mark_at w r (r.base.0 + i) ≤ 1
    → (is_marked (mark_at w r (r.base.0 + i)) ≡ true → r.base.0 + i < r.end.0) → mark_ok w r i ≡ true
unfolding mark_ok mark_fits
mark_passes w r i l f =
    let m : ℕ = mark_at w r (r.base.0 + i) in
    all_every (is_flag m ∷ implies (is_marked m) (ltb (r.base.0 + i) r.end.0) ∷ [])
    (le-leb m 1 l, (imply (is_marked m) (ltb (r.base.0 + i) r.end.0) (λ t. lt-ltb (r.base.0 + i) r.end.0 (f t)), tt))

-- a held place, and one that is not
abbrev Holds : Hold → ℕ → Type 0
Holds h c = ((is_held h ≡ true) × (h.length ≤ place_size) × (c ≤ highest)) ⊎ (h ≡ empty)

hold_told : (h : Hold) (c : ℕ) → cond (is_held h) (every (held_tests h c)) (every (zero_tests h)) ≡ true → Holds h c
hold_told h c e = go (is_held h) refl e
  where
    go : (b : Bool) → is_held h ≡ b → cond b (every (held_tests h c)) (every (zero_tests h)) ≡ true → Holds h c
    go true t q =
        let k = every_all (held_tests h c) q in
        inl (t, leb-true h.length place_size k.0, leb-true c highest k.1.0)
    go false t q =
        let k = every_all (zero_tests h) q in
        inr (is_empty h (eqb-true h.held 0 k.0) (eqb-true h.length 0 k.1.0))

zero_tests_lem : (h : Hold) → h ≡ empty → every (zero_tests h) ≡ true
zero_tests_lem h e =
    all_every (zero_tests h) (eq-eqb h.held 0 (ap (λ (x : Hold). x.held) e), (eq-eqb h.length 0 (ap (λ (x : Hold). x.length) e), tt))

hold_tested : (h : Hold) (c : ℕ) → (is_held h ≡ true → (h.length ≤ place_size) × (c ≤ highest)) → (is_held h ≡ false → h ≡ empty)
    → cond (is_held h) (every (held_tests h c)) (every (zero_tests h)) ≡ true
hold_tested h c f g = go (is_held h) refl
  where
    go : (b : Bool) → is_held h ≡ b → cond b (every (held_tests h c)) (every (zero_tests h)) ≡ true
    go true t = all_every (held_tests h c) (le-leb h.length place_size (f t).0, (le-leb c highest (f t).1, tt))
    go false t = zero_tests_lem h (g t)

hold_says : (w : ℕ) (r : Receiver) (i : ℕ) → hold_ok w r i ≡ true → Holds (hold_at w r (r.due.0 + i)) (r.due.0 + i)
unfolding hold_ok hold_fits
hold_says w r i h = hold_told (hold_at w r (r.due.0 + i)) (r.due.0 + i) h

hold_passes : (w : ℕ) (r : Receiver) (i : ℕ)
    → (is_held (hold_at w r (r.due.0 + i)) ≡ true → ((hold_at w r (r.due.0 + i)).length ≤ place_size) × (r.due.0 + i ≤ highest))
    → (is_held (hold_at w r (r.due.0 + i)) ≡ false → hold_at w r (r.due.0 + i) ≡ empty) → hold_ok w r i ≡ true
unfolding hold_ok hold_fits
hold_passes w r i f g = hold_tested (hold_at w r (r.due.0 + i)) (r.due.0 + i) f g

spare_mark_lem : (w : ℕ) (r : Receiver) (i : ℕ) → spare_mark w r i ≡ true → w ≤ i → get_or r.marks i 0 ≡ 0
unfolding spare_mark
spare_mark_lem w r i h l = eqb-true (get_or r.marks i 0) 0 (implied (leb w i) (eqb (get_or r.marks i 0) 0) h (le-leb w i l))

spare_mark_passes : (w : ℕ) (r : Receiver) (i : ℕ) → (w ≤ i → get_or r.marks i 0 ≡ 0) → spare_mark w r i ≡ true
unfolding spare_mark
spare_mark_passes w r i f = imply (leb w i) (eqb (get_or r.marks i 0) 0) (λ t. eq-eqb (get_or r.marks i 0) 0 (f (leb-true w i t)))

spare_hold_lem : (w : ℕ) (r : Receiver) (i : ℕ) → spare_hold w r i ≡ true → w ≤ i → get_or r.holds i empty ≡ empty
unfolding spare_hold
spare_hold_lem w r i h l =
    let x : Hold = get_or r.holds i empty in
    let k = every_all (zero_tests x) (implied (leb w i) (every (zero_tests x)) h (le-leb w i l)) in
    is_empty x (eqb-true x.held 0 k.0) (eqb-true x.length 0 k.1.0)

spare_hold_passes : (w : ℕ) (r : Receiver) (i : ℕ) → (w ≤ i → get_or r.holds i empty ≡ empty) → spare_hold w r i ≡ true
unfolding spare_hold
spare_hold_passes w r i f =
    let x : Hold = get_or r.holds i empty in
    imply (leb w i) (every (zero_tests x)) (λ t. zero_tests_lem x (f (leb-true w i t)))

-- The tests give the facts.
pub consistent_facts : (w cap : ℕ) (r : Receiver) → consistent_of w cap r ≡ true → Facts w cap r
unfolding consistent_of bounds_fit
consistent_facts w cap r h =
    let q = every_all (consistency_tests w cap r) h in
    let b = every_all (bound_tests r.firstdata.0 r.firstchannel.0 r.base.0 r.end.0 r.due.0) q.1.1.0 in
    let b4 = b.1.1.1.1 in
    let q3 = q.1.1.1 in
    let q6 = q3.1.1.1 in
    let ms : length r.marks ≡ cap = eqb-true _ _ q.0 in
    let hs : length r.holds ≡ cap = eqb-true _ _ q.1.0 in
    record {
      marks_size = ms;
      holds_size = hs;
      first_data = leb-true _ _ b.0;
      first_channel = leb-true _ _ b.1.0;
      base_from = leb-true _ _ b.1.1.0;
      base_range = leb-true _ _ b.1.1.1.0;
      end_from = leb-true _ _ b4.0;
      end_range = leb-true _ _ b4.1.0;
      due_from = leb-true _ _ b4.1.1.0;
      due_range = leb-true _ _ b4.1.1.1.0;
      base_stands = not-true _ q3.0;
      end_near = leb-true _ _ q3.1.0;
      end_marked = λ l. implied _ _ q3.1.1.0 (lt-ltb _ _ l);
      mark_flag = λ n l u. (marks n l u q6.0).0;
      marks_end = λ n l u. (marks n l u q6.0).1;
      held_short = λ c l u t. ⊎_elim (λ x. x.1) (λ x. clash (is_held (hold_at w r c)) t (ap is_held x)) (holds c l u q6.1.0);
      held_range = λ c l u t. ⊎_elim (λ x. x.2) (λ x. clash (is_held (hold_at w r c)) t (ap is_held x)) (holds c l u q6.1.0);
      not_held = λ c l u t. ⊎_elim (λ x. clash (is_held (hold_at w r c)) x.0 t) (λ x. x) (holds c l u q6.1.0);
      marks_spare = λ i l. ⊎_elim
          (λ lt. spare_mark_lem w r i (all_at (spare_mark w r) cap q6.1.1.0 i lt) l)
          (λ ge. get_or-eq_default r.marks 0 (omega arith))
          (lt_or_ge i cap);
      holds_spare = λ i l. ⊎_elim
          (λ lt. spare_hold_lem w r i (all_at (spare_hold w r) cap q6.1.1.1.0 i lt) l)
          (λ ge. get_or-eq_default r.holds empty (omega arith))
          (lt_or_ge i cap);
    }
  where
    marks : (n : ℕ) → r.base.0 ≤ n → n < r.base.0 + w → all_below (mark_ok w r) w ≡ true
        → (mark_at w r n ≤ 1) × (is_marked (mark_at w r n) ≡ true → n < r.end.0)
    marks n l u a =
        at_number (λ (n : ℕ). (mark_at w r n ≤ 1) × (is_marked (mark_at w r n) ≡ true → n < r.end.0)) r.base.0 w
        (λ i m. mark_says w r i (all_at (mark_ok w r) w a i m)) n l u

    holds : (c : ℕ) → r.due.0 ≤ c → c < r.due.0 + w → all_below (hold_ok w r) w ≡ true → Holds (hold_at w r c) c
    holds c l u a =
        at_number (λ (c : ℕ). Holds (hold_at w r c) c) r.due.0 w (λ i m. hold_says w r i (all_at (hold_ok w r) w a i m)) c l u

-- The facts pass the tests.
pub facts_consistent : (w cap : ℕ) (r : Receiver) → Facts w cap r → consistent_of w cap r ≡ true
unfolding consistent_of bounds_fit every
facts_consistent w cap r k =
    rw (
      eq-eqb (length r.marks) cap k.marks_size,
      eq-eqb (length r.holds) cap k.holds_size,
      le-leb r.firstdata.0 highest_first k.first_data,
      le-leb r.firstchannel.0 highest_first k.first_channel,
      le-leb r.firstdata.0 r.base.0 k.base_from,
      le-leb r.base.0 past_highest k.base_range,
      le-leb r.firstdata.0 r.end.0 k.end_from,
      le-leb r.end.0 past_highest k.end_range,
      le-leb r.firstchannel.0 r.due.0 k.due_from,
      le-leb r.due.0 past_highest k.due_range,
      k.base_stands,
      le-leb r.end.0 (r.base.0 + w) k.end_near,
      imply (ltb r.base.0 r.end.0) (is_marked (mark_at w r (r.end.0 - 1))) (λ t. k.end_marked (ltb-true r.base.0 r.end.0 t)),
      all_from (mark_ok w r) w marks,
      all_from (hold_ok w r) w holds,
      all_from (spare_mark w r) cap (λ i l. spare_mark_passes w r i (k.marks_spare i)),
      all_from (spare_hold w r) cap (λ i l. spare_hold_passes w r i (k.holds_spare i)),
    )
    refl
  where
    marks : (i : ℕ) → i < w → mark_ok w r i ≡ true
    marks i l =
        mark_passes w r i (k.mark_flag (r.base.0 + i) (omega arith) (omega arith))
        (k.marks_end (r.base.0 + i) (omega arith) (omega arith))

    holds : (i : ℕ) → i < w → hold_ok w r i ≡ true
    holds i l =
        hold_passes w r i
        (λ t. (k.held_short (r.due.0 + i) (omega arith) (omega arith) t, k.held_range (r.due.0 + i) (omega arith) (omega arith) t))
        (k.not_held (r.due.0 + i) (omega arith) (omega arith))

-- With the store's size.
pub sound_facts : (w cap : ℕ) (r : Receiver) (size : ℕ) → sound_of w cap r size ≡ true → Facts w cap r × (size ≡ store_size w)
unfolding sound_with
sound_facts w cap r size h =
    let q = every_all (consistent_of w cap r ∷ eqb size (store_size w) ∷ []) h in
    (consistent_facts w cap r q.0, eqb-true size (store_size w) q.1.0)

pub facts_sound : (w cap : ℕ) (r : Receiver) (size : ℕ) → Facts w cap r → size ≡ store_size w → sound_of w cap r size ≡ true
unfolding sound_with
facts_sound w cap r size k e =
    all_every (consistent_of w cap r ∷ eqb size (store_size w) ∷ []) (facts_consistent w cap r k, (eq-eqb size (store_size w) e, tt))
