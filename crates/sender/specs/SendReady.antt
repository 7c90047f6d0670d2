-- What answer 0 of the two sending calls tells: the number and the block may go out.
use Rattle.std.specs.Prelude.{ℕ, zero, suc, ◌+◌, ◌-◌, ◌%◌, ◌^◌, ◌≤◌, ◌<◌, Bool, true, false, cond, List, [], ◌∷◌, ◌≡◌, refl, eqb, length}
use Rattle.std.proofs.Math.Option.{Option, none, some}
use Rattle.std.proofs.Common.{⊎_elim, sym, ◌∙◌, ap, mod-lt, mul-le-mul_right, suc-mul, arith, eqb-true, ltb-false, leb-false, le-leb}
use Rattle.std.proofs.Math.Nat.{min-le_left}
use Rattle.std.proofs.lemmas.Bool.{eqb-false, not-false}
use Rattle.common.specs.EveryLaws.{every_all}
use Rattle.common.specs.Order.{first_pass}
use Rattle.common.specs.Facts.{lt_or_ge, bool, clash}
use Rattle.numbers.specs.Full.{highest}
use Rattle.window.specs.Store.{place_size, store_size, store_place, sound_with}
use Rattle.sender.specs.declared.BlockPlace.{BlockPlace}
use Rattle.sender.specs.declared.Sender.{Sender}
use Rattle.sender.specs.Record.{longest_sent, most_sends, State, is_waiting, is_spent, is_in_flight, in_flight, waiting, block_at}
use Rattle.sender.specs.Consistent.{consistent_of, sound_of}
use Rattle.sender.specs.Send.{limit_of, at_limit_of, numbers_full, new_answer, waiting_from, lowest_waiting, is_none, is_spent_at, lowest_spent, resend_answer}
use Rattle.sender.specs.Facts.{Facts}
use Rattle.sender.specs.SentFacts.{Ready}

neither : (a b : Bool) → cond a true b ≡ false → (a ≡ false) × (b ≡ false)
neither true b h = clash true refl h
neither false b h = (refl, h)

-- A sound record and store: the record is consistent, and the store of its size.
pub sound_facts : (w cap : ℕ) (s : Sender) (size : ℕ) → sound_of w cap s size ≡ true → (consistent_of w cap s ≡ true) × (size ≡ store_size w)
unfolding sound_with
sound_facts w cap s size h =
    let k = every_all (consistent_of w cap s ∷ eqb size (store_size w) ∷ []) h in (k.0, eqb-true _ _ k.1.0)

-- The limit is at most the window,
limit_most : (w k : ℕ) → limit_of w k ≤ w
unfolding limit_of
limit_most w k = min-le_left w (2 ^ k)

-- so where the data numbers are below it there is room in the window,
room_under : (w : ℕ) (s : Sender) → numbers_full w s ≡ false → s.next.0 < s.low.0 + w
unfolding at_limit_of
room_under w s h = omega (arith, leb-false (limit_of w s.logwindow) (s.next.0 - s.low.0) h, limit_most w s.logwindow)

-- and a range that already has w numbers is full, as before document 02's W5, whatever the peer's LogWindowSize.
pub full_is_full : (w : ℕ) (s : Sender) → s.low.0 + w ≤ s.next.0 → numbers_full w s ≡ true
unfolding at_limit_of
full_is_full w s l = le-leb (limit_of w s.logwindow) (s.next.0 - s.low.0) (omega (arith, limit_most w s.logwindow))

-- what an accepted new block has
pub record New (w cap : ℕ) (s : State) (block : List ℕ) : Type 0 where
  pub sound : sound_of w cap s.sender (length s.store) ≡ true
  pub short : length block ≤ longest_sent
  pub left : s.sender.next.0 ≤ highest
  pub channelleft : s.sender.channelnext.0 ≤ highest
  pub room : s.sender.next.0 < s.sender.low.0 + w
  pub channelroom : s.sender.channelnext.0 < s.sender.channellow.0 + w

pub new_accepted : (w cap : ℕ) (s : State) (block : List ℕ) (room : ℕ) → new_answer w cap s block room ≡ 0 → New w cap s block
unfolding new_answer
new_accepted w cap s block room h =
    let (t1, r1) = first_pass _ _ _ (omega arith) (sym h) in
    let (t2, r2) = first_pass _ _ _ (omega arith) r1 in
    let (t3, r3) = first_pass _ _ _ (omega arith) r2 in
    let (t4, r4) = first_pass _ _ _ (omega arith) r3 in
    let (a, b) = neither _ _ t3 in
    let (c, d) = neither _ _ t4 in
    record {
      sound = not-false _ t1;
      short = ltb-false _ _ t2;
      left = ltb-false _ _ a;
      channelleft = ltb-false _ _ b;
      room = room_under w s.sender c;
      channelroom = leb-false _ _ d;
    }

pub new_ready : (w cap : ℕ) (s : State) (block : List ℕ) → Facts w cap s.sender → New w cap s block
    → Ready w s.sender s.sender.channelnext.0 (length block) 1 (s.sender.channelnext.0 + 1)
new_ready w cap s block f k =
    record {
      short = k.short;
      begun = omega arith;
      few = omega arith;
      left = k.left;
      room = k.room;
      least = f.bounds.channelnext;
      most = omega arith;
      rises = omega arith;
      full = omega (arith, k.channelleft);
      fits = omega (arith, k.channelroom);
      others = λ d l ne. ⊎_elim (λ lt. lt) (λ ge. absurd (ne (omega arith))) (lt_or_ge d s.sender.channelnext.0);
      idle = ap (λ (b : BlockPlace). is_in_flight b) (f.vacant s.sender.channelnext.0 (omega arith) k.channelroom);
    }

-- A block of at most 1,223 bytes fits its place in the store.
pub place_room : (w c n size : ℕ) → 0 < w → n ≤ longest_sent → size ≡ store_size w → store_place w c + n ≤ size
place_room w c n size lw ln e =
    let l : suc (c % w) ≤ w = mod-lt c lw in
    let m = mul-le-mul_right place_size l in
    let k = suc-mul (c % w) place_size in
    omega arith

-- The waiting block that is found, is one, and in range.
pub record Waits (w : ℕ) (s : Sender) (from top d : ℕ) : Type 0 where
  pub least : from ≤ d
  pub most : d < top
  pub waits : is_waiting (block_at w s d) ≡ true

abbrev value_of : Option ℕ → ℕ
value_of none = 0
value_of (some d) = d

pub waiting_found : (w : ℕ) (s : Sender) (k c d : ℕ) → waiting_from w s c k ≡ some d → Waits w s c (c + k) d
unfolding waiting_from
waiting_found w s zero c d h = clash true refl (ap is_none h)
waiting_found w s (suc k) c d h =
    ⊎_elim
    (λ t. let e : c ≡ d = ap value_of (sym (ap (λ (x : Bool). cond x (some c) (waiting_from w s (c + 1) k)) t) ∙ h) in
    record { least = omega arith; most = omega arith; waits = ap (λ (x : ℕ). is_waiting (block_at w s x)) (sym e) ∙ t })
    (λ t. let j = waiting_found w s k (c + 1) d (sym (ap (λ (x : Bool). cond x (some c) (waiting_from w s (c + 1) k)) t) ∙ h) in
    record { least = omega (arith, j.least); most = omega (arith, j.most); waits = j.waits })
    (bool (is_waiting (block_at w s c)))

-- what an accepted resend has
pub record Again (w cap : ℕ) (s : State) : Type 0 where
  pub sound : sound_of w cap s.sender (length s.store) ≡ true
  pub found : is_none (lowest_waiting w s.sender) ≡ false
  pub unspent : lowest_spent w s.sender ≡ false
  pub left : s.sender.next.0 ≤ highest
  pub room : s.sender.next.0 < s.sender.low.0 + w

pub resend_accepted : (w cap : ℕ) (s : State) (room : ℕ) → resend_answer w cap s room ≡ 0 → Again w cap s
unfolding resend_answer
resend_accepted w cap s room h =
    let (t1, r1) = first_pass _ _ _ (omega arith) (sym h) in
    let (t2, r2) = first_pass _ _ _ (omega arith) r1 in
    let (t3, r3) = first_pass _ _ _ (omega arith) r2 in
    let (t4, r4) = first_pass _ _ _ (omega arith) r3 in
    let (t5, r5) = first_pass _ _ _ (omega arith) r4 in
    record { sound = not-false _ t1; found = t2; unspent = t3; left = ltb-false _ _ t4; room = room_under w s.sender t5 }

-- Whether the lowest waiting block stands at its limit is said by its place.
pub spent_is : (w : ℕ) (s : Sender) (c : ℕ) → lowest_waiting w s ≡ some c → lowest_spent w s ≡ is_spent (block_at w s c)
unfolding lowest_spent
spent_is w s c e = ap (is_spent_at w s) e

pub resend_ready : (w cap : ℕ) (s : State) (c : ℕ) → Facts w cap s.sender → Again w cap s → lowest_waiting w s.sender ≡ some c
    → Ready w s.sender c (block_at w s.sender c).length ((block_at w s.sender c).sends + 1) s.sender.channelnext.0
unfolding lowest_waiting
resend_ready w cap s c f k e =
    let o = f.bounds in
    let j = waiting_found w s.sender (s.sender.channelnext.0 - s.sender.channellow.0) s.sender.channellow.0 c e in
    let lt : c < s.sender.channelnext.0 = omega (arith, j.most, o.channelnext) in
    let ne = eqb-false (block_at w s.sender c).sends most_sends (sym (spent_is w s.sender c e) ∙ k.unspent) in
    record {
      short = f.short c j.least lt;
      begun = omega arith;
      few = ⊎_elim (λ x. omega arith) (λ x. absurd (ne (omega (arith, f.few c j.least lt)))) (lt_or_ge (block_at w s.sender c).sends most_sends);
      left = k.left;
      room = k.room;
      least = j.least;
      most = lt;
      rises = omega arith;
      full = o.channelfull;
      fits = o.channelroom;
      others = λ d l ne. l;
      idle = ap (λ (n : ℕ). eqb n in_flight) (eqb-true (block_at w s.sender c).state waiting j.waits);
    }
