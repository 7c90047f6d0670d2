-- What a consistent record has, as facts over numbers, by name; and that a record which has them is consistent. No proof on the calls looks into the tests.
use Rattle.std.specs.Prelude.{ℕ, ◌+◌, ◌-◌, ◌≤◌, ◌<◌, Bool, false, ◌≡◌, refl, leb, length}
use Rattle.std.proofs.Math.Bool.{true, cond, not}
use Rattle.std.proofs.Math.Logic.{⊎_elim}
use Rattle.std.proofs.Math.Path.{sym, subst}
use Rattle.std.proofs.Common.{◌∙◌, ap, arith}
use Rattle.std.proofs.Math.ListN.{get_or, get_or-eq_default}
use borrow.Author.Tests.{leb-true, ltb-true, eqb-true, le-leb, lt-ltb, eq-eqb, not-true}
use Rattle.common.specs.Every.{every, all_below, count_below}
use Rattle.common.specs.EveryLaws.{all_every, all_at, all_from, implied, imply, every_at, every_none, every_first}
use Rattle.common.specs.CountLaws.{some_at, one_only, one_from}
use Rattle.common.specs.Facts.{lt_or_ge, bool, clash}
use Rattle.numbers.specs.Full.{past_highest, highest_first}
use Rattle.window.specs.Sliding.{Shape}
use Rattle.window.specs.Places.{at_number}
use Rattle.sender.specs.declared.NumberPlace.{NumberPlace}
use Rattle.sender.specs.declared.Sender.{Sender}
use Rattle.sender.specs.Record.{shortest_timeout, longest_timeout, longest_sent, most_sends, is_pending, is_in_flight, is_waiting, is_acknowledged, number_passes, block_passes, no_number, no_block, number_at, block_at}
use Rattle.sender.specs.PlaceTests.{zero_number_lem, number_zero, zero_block_lem, block_zero, number_past, number_pending, number_done, block_past, block_held, carried, carrying}
use Rattle.sender.specs.Consistent.{range_tests, range_fits, timeout_tests, timeout_fits, number_fits, carries, one_carrier, block_tests, block_fits, number_ok, block_ok, spare_number, spare_block, consistency_tests, consistent_of}

pub record Bounds (w : ℕ) (s : Sender) : Type 0 where
  pub firstdata : s.firstdata.0 ≤ highest_first
  pub firstchannel : s.firstchannel.0 ≤ highest_first
  pub shortest : shortest_timeout ≤ s.timeout
  pub longest : s.timeout ≤ longest_timeout
  pub low : s.firstdata.0 ≤ s.low.0
  pub next : s.low.0 ≤ s.next.0
  pub full : s.next.0 ≤ past_highest
  pub room : s.next.0 ≤ s.low.0 + w
  pub channellow : s.firstchannel.0 ≤ s.channellow.0
  pub channelnext : s.channellow.0 ≤ s.channelnext.0
  pub channelfull : s.channelnext.0 ≤ past_highest
  pub channelroom : s.channelnext.0 ≤ s.channellow.0 + w

-- a pending number: its block is in range and in flight
pub record Out (w : ℕ) (s : Sender) (n : ℕ) : Type 0 where
  pub within : n < s.next.0
  pub least : s.channellow.0 ≤ (number_at w s n).channel.0
  pub most : (number_at w s n).channel.0 < s.channelnext.0
  pub flies : is_in_flight (block_at w s (number_at w s n).channel.0) ≡ true

-- a number that is received or lost
pub record Done (w : ℕ) (s : Sender) (n : ℕ) : Type 0 where
  pub passes : number_passes (number_at w s n) ≡ true
  pub least : s.firstchannel.0 ≤ (number_at w s n).channel.0
  pub most : (number_at w s n).channel.0 < s.channelnext.0

-- a pending number that carries block c
pub record Carrier (w : ℕ) (s : Sender) (c : ℕ) : Type 0 where
  pub n : ℕ
  pub from : s.low.0 ≤ n
  pub below : n < s.low.0 + w
  pub pends : is_pending (number_at w s n) ≡ true
  pub brings : (number_at w s n).channel.0 ≡ c

pub record Facts (w cap : ℕ) (s : Sender) : Type 0 where
  pub some : 0 < w
  pub fits : w ≤ cap
  pub numbers : length s.numbers ≡ cap
  pub blocks : length s.blocks ≡ cap
  pub bounds : Bounds w s
  pub low_stands : number_passes (number_at w s s.low.0) ≡ false
  pub channel_stands : is_acknowledged (block_at w s s.channellow.0) ≡ false
  pub pending : (n : ℕ) → s.low.0 ≤ n → n < s.low.0 + w → is_pending (number_at w s n) ≡ true → Out w s n
  pub done : (n : ℕ) → s.low.0 ≤ n → n < s.next.0 → is_pending (number_at w s n) ≡ false → Done w s n
  pub unused : (n : ℕ) → s.next.0 ≤ n → n < s.low.0 + w → number_at w s n ≡ no_number
  pub short : (c : ℕ) → s.channellow.0 ≤ c → c < s.channelnext.0 → (block_at w s c).length ≤ longest_sent
  pub begun : (c : ℕ) → s.channellow.0 ≤ c → c < s.channelnext.0 → 1 ≤ (block_at w s c).sends
  pub few : (c : ℕ) → s.channellow.0 ≤ c → c < s.channelnext.0 → (block_at w s c).sends ≤ most_sends
  pub rests : (c : ℕ) → s.channellow.0 ≤ c → c < s.channelnext.0 → is_in_flight (block_at w s c) ≡ false
      → cond (is_waiting (block_at w s c)) true (is_acknowledged (block_at w s c)) ≡ true
  pub vacant : (c : ℕ) → s.channelnext.0 ≤ c → c < s.channellow.0 + w → block_at w s c ≡ no_block
  -- a block in flight has one pending number, and only one
  pub single : (c : ℕ) → s.channellow.0 ≤ c → c < s.channelnext.0 → is_in_flight (block_at w s c) ≡ true → Carrier w s c
  pub only : (n m : ℕ) → s.low.0 ≤ n → n < s.low.0 + w → s.low.0 ≤ m → m < s.low.0 + w
      → is_pending (number_at w s n) ≡ true → is_pending (number_at w s m) ≡ true → (number_at w s n).channel.0 ≡ (number_at w s m).channel.0 → n ≡ m
  -- the places past the window
  pub spare_numbers : (i : ℕ) → w ≤ i → get_or s.numbers i no_number ≡ no_number
  pub spare_blocks : (i : ℕ) → w ≤ i → get_or s.blocks i no_block ≡ no_block

-- both windows are such as slide
pub number_shape : {w cap : ℕ} → 0 < w → w ≤ cap → Shape no_number w cap number_passes
number_shape l u = record { some = l; fits = u; stops = refl }

pub block_shape : {w cap : ℕ} → 0 < w → w ≤ cap → Shape no_block w cap block_passes
block_shape l u = record { some = l; fits = u; stops = refl }

module _ (w cap : ℕ) (s : Sender) where
  abbrev number_judged : ℕ → Bool
  number_judged n =
      number_fits (number_at w s n) (is_in_flight (block_at w s (number_at w s n).channel.0)) n s.next.0 s.firstchannel.0 s.channellow.0 s.channelnext.0

  abbrev block_judged : ℕ → Bool
  block_judged c = block_fits (block_at w s c) (one_carrier w s c) c s.channelnext.0

  numbers_judged : all_below (number_ok w s) w ≡ true → (n : ℕ) → s.low.0 ≤ n → n < s.low.0 + w → number_judged n ≡ true
  unfolding number_ok
  numbers_judged h = at_number (λ (n : ℕ). number_judged n ≡ true) s.low.0 w (all_at (number_ok w s) w h)

  blocks_judged : all_below (block_ok w s) w ≡ true → (c : ℕ) → s.channellow.0 ≤ c → c < s.channellow.0 + w → block_judged c ≡ true
  unfolding block_ok
  blocks_judged h = at_number (λ (c : ℕ). block_judged c ≡ true) s.channellow.0 w (all_at (block_ok w s) w h)

  -- What the tests of every place tell.
  module _ (b : Bounds w s)
      (ns : (n : ℕ) → s.low.0 ≤ n → n < s.low.0 + w → number_judged n ≡ true)
      (bs : (c : ℕ) → s.channellow.0 ≤ c → c < s.channellow.0 + w → block_judged c ≡ true) where
    pending_out : (n : ℕ) → s.low.0 ≤ n → n < s.low.0 + w → is_pending (number_at w s n) ≡ true → Out w s n
    pending_out n l u t =
        ⊎_elim
        (λ lt. let h = sym (number_pending (number_at w s n) _ n _ _ _ _ lt t) ∙ ns n l u in
        record {
          within = lt;
          least = leb-true _ _ (every_at _ h 0);
          most = ltb-true _ _ (every_at _ h 1);
          flies = every_at _ h 2;
        })
        (λ ge. clash (is_pending (number_at w s n)) t
        (ap (λ (p : NumberPlace). is_pending p) (zero_number_lem (number_at w s n) (sym (number_past (number_at w s n) _ n _ _ _ _ ge) ∙ ns n l u))))
        (lt_or_ge n s.next.0)

    done_range : (n : ℕ) → s.low.0 ≤ n → n < s.next.0 → is_pending (number_at w s n) ≡ false → Done w s n
    done_range n l u t =
        let h = sym (number_done (number_at w s n) _ n _ _ _ _ u t) ∙ ns n l (omega (arith, b.room)) in
        record {
          passes = every_at _ h 0;
          least = leb-true _ _ (every_at _ h 1);
          most = ltb-true _ _ (every_at _ h 2);
        }

    held : (c : ℕ) → s.channellow.0 ≤ c → c < s.channelnext.0 → every (block_tests (block_at w s c) (one_carrier w s c)) ≡ true
    held c l u = sym (block_held (block_at w s c) _ c _ u) ∙ bs c l (omega (arith, b.channelroom))

    counted : (c : ℕ) → s.channellow.0 ≤ c → c < s.channelnext.0 → is_in_flight (block_at w s c) ≡ true → count_below (carries w s c) w ≡ 1
    unfolding one_carrier
    counted c l u t =
        eqb-true _ _
        (subst (λ (x : Bool). cond x (one_carrier w s c) (cond (is_waiting (block_at w s c)) true (is_acknowledged (block_at w s c))) ≡ true) t (every_at _ (held c l u) 3))

    one_carrier_lem : (c : ℕ) → s.channellow.0 ≤ c → c < s.channelnext.0 → is_in_flight (block_at w s c) ≡ true → Carrier w s c
    one_carrier_lem c l u t =
        let (i, li, e) = some_at (carries w s c) w (omega (arith, counted c l u t)) in
        let (p, q) = carrying w s c i e in
        record { n = s.low.0 + i; from = omega arith; below = omega arith; pends = p; brings = q }

    no_other : (n m : ℕ) → s.low.0 ≤ n → n < s.low.0 + w → s.low.0 ≤ m → m < s.low.0 + w
        → is_pending (number_at w s n) ≡ true → is_pending (number_at w s m) ≡ true → (number_at w s n).channel.0 ≡ (number_at w s m).channel.0 → n ≡ m
    no_other n m ln un lm um pn pm e =
        let c : ℕ = (number_at w s n).channel.0 in
        let f = pending_out n ln un pn in
        let k = one_only (carries w s c) w (counted c f.least f.most f.flies) (n - s.low.0) (m - s.low.0) (omega arith) (omega arith)
        (carried w s n c ln pn refl) (carried w s m c lm pm (sym e)) in
        omega arith

  pub consistent_facts : 0 < w → w ≤ cap → consistent_of w cap s ≡ true → Facts w cap s
  unfolding consistent_of range_fits timeout_fits spare_number spare_block
  consistent_facts lw uw h =
      record {
        some = lw;
        fits = uw;
        numbers = longn;
        blocks = longb;
        bounds = b;
        low_stands = not-true _ (test 5);
        channel_stands = not-true _ (test 6);
        pending = pending_out b ns bs;
        done = done_range b ns bs;
        unused = λ n l u. zero_number_lem (number_at w s n) (sym (number_past (number_at w s n) _ n _ _ _ _ l) ∙ ns n (omega (arith, b.next)) u);
        short = λ c l u. leb-true _ _ (every_at _ (held b ns bs c l u) 0);
        begun = λ c l u. leb-true _ _ (every_at _ (held b ns bs c l u) 1);
        few = λ c l u. leb-true _ _ (every_at _ (held b ns bs c l u) 2);
        rests = λ c l u t.
            subst (λ (x : Bool). cond x (one_carrier w s c) (cond (is_waiting (block_at w s c)) true (is_acknowledged (block_at w s c))) ≡ true) t
            (every_at _ (held b ns bs c l u) 3);
        vacant = λ c l u. zero_block_lem (block_at w s c) (sym (block_past (block_at w s c) _ c _ l) ∙ bs c (omega (arith, b.channelnext)) u);
        single = one_carrier_lem b ns bs;
        only = no_other b ns bs;
        spare_numbers = λ i l.
            ⊎_elim
            (λ lt. zero_number_lem (get_or s.numbers i no_number) (implied (leb w i) _ (all_at (spare_number w s) cap (test 9) i lt) (le-leb w i l)))
            (λ ge. get_or-eq_default s.numbers no_number (omega (arith, longn)))
            (lt_or_ge i cap);
        spare_blocks = λ i l.
            ⊎_elim
            (λ lt. zero_block_lem (get_or s.blocks i no_block) (implied (leb w i) _ (all_at (spare_block w s) cap (test 10) i lt) (le-leb w i l)))
            (λ ge. get_or-eq_default s.blocks no_block (omega (arith, longb)))
            (lt_or_ge i cap);
      }
    where
      test : (i : ℕ) → get_or (consistency_tests w cap s) i true ≡ true
      test = every_at (consistency_tests w cap s) h

      longn : length s.numbers ≡ cap
      longn = eqb-true _ _ (test 0)

      longb : length s.blocks ≡ cap
      longb = eqb-true _ _ (test 1)

      ranged : (i : ℕ) → get_or (range_tests w s.firstdata.0 s.low.0 s.next.0) i true ≡ true
      ranged = every_at (range_tests w s.firstdata.0 s.low.0 s.next.0) (test 2)

      channels : (i : ℕ) → get_or (range_tests w s.firstchannel.0 s.channellow.0 s.channelnext.0) i true ≡ true
      channels = every_at (range_tests w s.firstchannel.0 s.channellow.0 s.channelnext.0) (test 3)

      timed : (i : ℕ) → get_or (timeout_tests s.timeout) i true ≡ true
      timed = every_at (timeout_tests s.timeout) (test 4)

      b : Bounds w s
      b =
          record {
            firstdata = leb-true _ _ (ranged 0);
            firstchannel = leb-true _ _ (channels 0);
            shortest = leb-true _ _ (timed 0);
            longest = leb-true _ _ (timed 1);
            low = leb-true _ _ (ranged 1);
            next = leb-true _ _ (ranged 2);
            full = leb-true _ _ (ranged 3);
            room = leb-true _ _ (ranged 4);
            channellow = leb-true _ _ (channels 1);
            channelnext = leb-true _ _ (channels 2);
            channelfull = leb-true _ _ (channels 3);
            channelroom = leb-true _ _ (channels 4);
          }

      ns : (n : ℕ) → s.low.0 ≤ n → n < s.low.0 + w → number_judged n ≡ true
      ns = numbers_judged (test 7)

      bs : (c : ℕ) → s.channellow.0 ≤ c → c < s.channellow.0 + w → block_judged c ≡ true
      bs = blocks_judged (test 8)

  -- The other way: each test passes.
  number_fits_lem : Facts w cap s → (n : ℕ) → s.low.0 ≤ n → n < s.low.0 + w → number_judged n ≡ true
  number_fits_lem f n l u =
      ⊎_elim
      (λ lt. ⊎_elim
      (λ t. let k = f.pending n l u t in
      number_pending (number_at w s n) _ n _ _ _ _ lt t ∙ all_every _ (le-leb _ _ k.least, (lt-ltb _ _ k.most, (k.flies, tt))))
      (λ t. let k = f.done n l lt t in
      number_done (number_at w s n) _ n _ _ _ _ lt t ∙ all_every _ (k.passes, (le-leb _ _ k.least, (lt-ltb _ _ k.most, tt))))
      (bool (is_pending (number_at w s n))))
      (λ ge. number_past (number_at w s n) _ n _ _ _ _ ge ∙ number_zero _ (f.unused n ge u))
      (lt_or_ge n s.next.0)

  carried_once : Facts w cap s → (c : ℕ) → s.channellow.0 ≤ c → c < s.channelnext.0 → is_in_flight (block_at w s c) ≡ true → one_carrier w s c ≡ true
  unfolding one_carrier
  carried_once f c l u t =
      let k = f.single c l u t in
      eq-eqb _ _
      (one_from (carries w s c) w (k.n - s.low.0) (omega (arith, k.from, k.below)) (carried w s k.n c k.from k.pends k.brings) λ j lj h.
      let (p, e) = carrying w s c j h in
      let q = f.only (s.low.0 + j) k.n (omega arith) (omega arith) k.from k.below p k.pends (e ∙ sym k.brings) in
      omega arith)

  block_fits_lem : Facts w cap s → (c : ℕ) → s.channellow.0 ≤ c → c < s.channellow.0 + w → block_judged c ≡ true
  block_fits_lem f c l u =
      ⊎_elim
      (λ lt. block_held (block_at w s c) _ c _ lt ∙ all_every _ (le-leb _ _ (f.short c l lt), (le-leb _ _ (f.begun c l lt), (le-leb _ _ (f.few c l lt), (state lt, tt)))))
      (λ ge. block_past (block_at w s c) _ c _ ge ∙ block_zero _ (f.vacant c ge u))
      (lt_or_ge c s.channelnext.0)
    where
      state : c < s.channelnext.0 → cond (is_in_flight (block_at w s c)) (one_carrier w s c) (cond (is_waiting (block_at w s c)) true (is_acknowledged (block_at w s c))) ≡ true
      state lt =
          ⊎_elim
          (λ t. rw t (carried_once f c l lt t))
          (λ t. rw t (f.rests c l lt t))
          (bool (is_in_flight (block_at w s c)))

  pub facts_consistent : Facts w cap s → consistent_of w cap s ≡ true
  unfolding consistent_of range_fits timeout_fits number_ok block_ok spare_number spare_block
  facts_consistent f =
      let b = f.bounds in
      every_first _ _ (eq-eqb _ _ f.numbers)
      ∙ every_first _ _ (eq-eqb _ _ f.blocks)
      ∙ every_first _ _ (all_every (range_tests w s.firstdata.0 s.low.0 s.next.0) (le-leb _ _ b.firstdata, (le-leb _ _ b.low, (le-leb _ _ b.next, (le-leb _ _ b.full, (le-leb _ _ b.room, tt))))))
      ∙ every_first _ _ (all_every (range_tests w s.firstchannel.0 s.channellow.0 s.channelnext.0) (le-leb _ _ b.firstchannel, (le-leb _ _ b.channellow, (le-leb _ _ b.channelnext, (le-leb _ _ b.channelfull, (le-leb _ _ b.channelroom, tt))))))
      ∙ every_first _ _ (all_every (timeout_tests s.timeout) (le-leb _ _ b.shortest, (le-leb _ _ b.longest, tt)))
      ∙ every_first _ _ (ap not f.low_stands)
      ∙ every_first _ _ (ap not f.channel_stands)
      ∙ every_first _ _ (all_from (number_ok w s) w (λ i l. number_fits_lem f (s.low.0 + i) (omega arith) (omega arith)))
      ∙ every_first _ _ (all_from (block_ok w s) w (λ i l. block_fits_lem f (s.channellow.0 + i) (omega arith) (omega arith)))
      ∙ every_first _ _ (all_from (spare_number w s) cap (λ i l. imply (leb w i) _ (λ t. number_zero _ (f.spare_numbers i (leb-true w i t)))))
      ∙ every_first _ _ (all_from (spare_block w s) cap (λ i l. imply (leb w i) _ (λ t. block_zero _ (f.spare_blocks i (leb-true w i t)))))
      ∙ every_none
