-- What a record says of a block and of a data number wherever the lows stand, and what becomes of that when numbers turn and when the next one goes out.
use Rattle.std.specs.Prelude.{ℕ, ◌+◌, ◌≤◌, ◌<◌, Bool, true, false, cond, ◌||◌, [], ◌∷◌, ◌≡◌, refl, eqb, leb}
use Rattle.std.proofs.Common.{⊎_elim, sym, ◌∙◌, ap, arith}
use Rattle.std.proofs.Math.Dec.{ltb}
use borrow.Author.Tests.{eqb-true, eq-eqb, leb-true, ltb-true, lt-ltb, le-ltb, le-leb}
use Rattle.common.specs.Every.{every}
use Rattle.common.specs.EveryLaws.{every_all, all_every}
use Rattle.common.specs.CountLaws.{one}
use Rattle.common.specs.Facts.{lt_or_ge, bool, clash, same_bool, or_left, or_right, or_cases}
use Rattle.sender.specs.declared.NumberPlace.{NumberPlace}
use Rattle.sender.specs.declared.BlockPlace.{BlockPlace}
use Rattle.sender.specs.declared.Sender.{Sender}
use Rattle.sender.specs.Record.{in_flight, waiting, acknowledged, is_pending, is_in_flight, is_waiting, is_acknowledged, number_at, block_at}
use Rattle.sender.specs.Turn.{Turn}
use Rattle.sender.specs.Run.{has_acknowledged}
use Rattle.sender.specs.Send.{sent_of}
use Rattle.sender.specs.Facts.{Facts}
use Rattle.sender.specs.TurnedWants.{Ending, flying_stands, turn_block, block_unchosen, block_chosen_lem, block_chosen, Chosen, chosen_from, want_block_lem}
use Rattle.sender.specs.Turned.{Turned, pending_before, pending_after}
use Rattle.sender.specs.TurnedFacts.{low_from, block_held}
use Rattle.sender.specs.SentFacts.{Ready, equal_or_not, number_new, number_old, block_new, block_old}

-- the record has block c in flight, or waiting: its place says so, and channel low has not passed it
abbrev pub has_in_flight : ℕ → Sender → ℕ → Bool
has_in_flight w s c = cond (ltb c s.channellow.0) false (is_in_flight (block_at w s c))

abbrev pub has_waiting : ℕ → Sender → ℕ → Bool
has_waiting w s c = cond (ltb c s.channellow.0) false (is_waiting (block_at w s c))

-- the record has number n pending: it is in range, and its place says so
unfoldable pub has_pending : ℕ → Sender → ℕ → Bool
has_pending w s n = every (leb s.low.0 n ∷ ltb n s.next.0 ∷ is_pending (number_at w s n) ∷ [])

pub record Pends (w : ℕ) (s : Sender) (n : ℕ) : Type 0 where
  pub from : s.low.0 ≤ n
  pub below : n < s.next.0
  pub pends : is_pending (number_at w s n) ≡ true

module _ (w : ℕ) (s : Sender) where
  pub pends_at : (n : ℕ) → has_pending w s n ≡ true → Pends w s n
  unfolding has_pending
  pends_at n h =
      let k = every_all (leb s.low.0 n ∷ ltb n s.next.0 ∷ is_pending (number_at w s n) ∷ []) h in
      record { from = leb-true _ _ k.0; below = ltb-true _ _ k.1.0; pends = k.1.1.0 }

  pub pends_from : (n : ℕ) → Pends w s n → has_pending w s n ≡ true
  unfolding has_pending
  pends_from n k = all_every _ (le-leb _ _ k.from, (lt-ltb _ _ k.below, (k.pends, tt)))

  -- Below channel low a block is acknowledged; from there on its place says what it is.
  pub passed : (c : ℕ) → c < s.channellow.0 → has_acknowledged w s c ≡ true
  passed c l = ap (λ (x : Bool). cond x true (is_acknowledged (block_at w s c))) (lt-ltb c s.channellow.0 l)

  pub placed : (c : ℕ) → s.channellow.0 ≤ c → has_acknowledged w s c ≡ is_acknowledged (block_at w s c)
  placed c l = ap (λ (x : Bool). cond x true (is_acknowledged (block_at w s c))) (le-ltb c s.channellow.0 l)

-- in how many of the three states a place with this number is
abbrev sum : ℕ → ℕ
sum k = one (eqb k acknowledged) + one (eqb k in_flight) + one (eqb k waiting)

-- A place that is in flight, or else rests, is in one of them.
one_state : (b : BlockPlace) → (is_in_flight b ≡ false → cond (is_waiting b) true (is_acknowledged b) ≡ true)
    → one (is_acknowledged b) + one (is_in_flight b) + one (is_waiting b) ≡ 1
one_state b h =
    ⊎_elim
    (λ t. stands in_flight (eqb-true b.state in_flight t) refl)
    (λ t. ⊎_elim
    (λ u. stands waiting (eqb-true b.state waiting u) refl)
    (λ u. stands acknowledged (eqb-true b.state acknowledged (sym (ap (λ (x : Bool). cond x true (is_acknowledged b)) u) ∙ h t)) refl)
    (bool (is_waiting b)))
    (bool (is_in_flight b))
  where
    stands : (k : ℕ) → b.state ≡ k → sum k ≡ 1 → sum b.state ≡ 1
    stands k e r = ap sum e ∙ r

-- the same of a block, by whether channel low has passed it
abbrev three : ℕ → Sender → ℕ → Bool → ℕ
three w s c x = one (cond x true (is_acknowledged (block_at w s c))) + one (cond x false (is_in_flight (block_at w s c))) + one (cond x false (is_waiting (block_at w s c)))

-- A block below channel next is acknowledged, in flight or waiting, and only one of these.
pub one_of_three : {w cap : ℕ} {s : Sender} → Facts w cap s → (c : ℕ) → c < s.channelnext.0
    → one (has_acknowledged w s c) + one (has_in_flight w s c) + one (has_waiting w s c) ≡ 1
one_of_three {w} {cap} {s} f c u =
    ⊎_elim
    (λ lt. ap (three w s c) (lt-ltb c s.channellow.0 lt))
    (λ ge. ap (three w s c) (le-ltb c s.channellow.0 ge) ∙ one_state (block_at w s c) (f.rests c ge u))
    (lt_or_ge c s.channellow.0)

-- NUMBERS TURN
module _ {w cap : ℕ} {t : Turn} {s : Sender} (e : Ending t) (f : Facts w cap s) {chosen : ℕ → Bool} {q : Sender} (a : Turned w cap t s chosen q) where
  -- Pending is what was, and is not chosen.
  pub turned_pending : (n : ℕ) → has_pending w q n ≡ cond (chosen n) false (has_pending w s n)
  turned_pending n =
      same_bool _ _
      (λ h. let k = pends_at w q n h in
      let (u, p, out, z) = pending_before e f a.turning n k.from (omega (arith, k.below, a.turning.next, f.bounds.room, low_from e f a)) k.pends in
      ap (λ (x : Bool). cond x false (has_pending w s n)) out
      ∙ pends_from w s n (record { from = omega (arith, k.from, low_from e f a); below = omega (arith, k.below, a.turning.next); pends = p }))
      (λ h. let (out, p) = neither (chosen n) (has_pending w s n) h in
      let k = pends_at w s n p in
      let (l, z) = pending_after e f a.turning n k.from (omega (arith, k.below, f.bounds.room)) k.pends out in
      pends_from w q n (record { from = l; below = omega (arith, k.below, a.turning.next); pends = ap (λ (p : NumberPlace). is_pending p) z ∙ k.pends }))
    where
      neither : (x y : Bool) → cond x false y ≡ true → (x ≡ false) × (y ≡ true)
      neither true y h = clash false h refl
      neither false y h = (refl, h)

  turned_place : (c : ℕ) → s.channellow.0 ≤ c → c < s.channelnext.0
      → has_acknowledged w q c ≡ is_acknowledged (turn_block t (block_chosen w s chosen c) (block_at w s c))
  turned_place c l u =
      ⊎_elim
      (λ lt. passed w q c lt
      ∙ sym (sym (ap (λ (b : BlockPlace). is_acknowledged b) (want_block_lem w t s chosen c (omega (arith, f.bounds.channelroom)))) ∙ a.turning.blocks.below c l lt))
      (λ ge. placed w q c ge ∙ ap (λ (b : BlockPlace). is_acknowledged b) (block_held e f a c ge u))
      (lt_or_ge c q.channellow.0)

  -- A block none of whose numbers is chosen is acknowledged exactly if it was.
  pub turned_unchosen : (c : ℕ) → c < s.channelnext.0 → block_chosen w s chosen c ≡ false → has_acknowledged w q c ≡ has_acknowledged w s c
  turned_unchosen c u x =
      ⊎_elim
      (λ lt. passed w q c (omega (arith, a.turning.blocks.from)) ∙ sym (passed w s c lt))
      (λ ge. turned_place c ge u ∙ ap (λ (b : BlockPlace). is_acknowledged b) (block_unchosen t _ (block_at w s c) x) ∙ sym (placed w s c ge))
      (lt_or_ge c s.channellow.0)

  -- A block with a chosen number was in flight, and ends as the turn says.
  pub turned_chosen : (c : ℕ) → Chosen w s chosen c → (has_acknowledged w s c ≡ false) × (has_acknowledged w q c ≡ eqb t.block acknowledged)
  turned_chosen c k =
      let o = f.pending k.n k.from k.below k.pends in
      let l : s.channellow.0 ≤ c = omega (arith, o.least, k.brings) in
      let fly : is_in_flight (block_at w s c) ≡ true = ap (λ (d : ℕ). is_in_flight (block_at w s d)) (sym k.brings) ∙ o.flies in (
        placed w s c l ∙ flying_stands (block_at w s c) fly,
        turned_place c l (omega (arith, o.most, k.brings))
            ∙ ap (λ (b : BlockPlace). is_acknowledged b) (block_chosen_lem t _ (block_at w s c) (chosen_from w s chosen c k)),
      )

-- THE NEXT NUMBER GOES OUT
module _ {w cap : ℕ} {s : Sender} (f : Facts w cap s) (tick : ℕ) {c size times top : ℕ} (r : Ready w s c size times top) where
  abbrev q : Sender
  q = sent_of w s tick c size times top

  -- It is pending besides those that were.
  pub sent_pending : (n : ℕ) → has_pending w (sent_of w s tick c size times top) n ≡ (eqb s.next.0 n || has_pending w s n)
  sent_pending n =
      same_bool _ _
      (λ h. let k = pends_at w q n h in
      ⊎_elim
      (λ z. or_left (eqb s.next.0 n) _ (eq-eqb _ _ (sym z)))
      (λ ne. or_right (eqb s.next.0 n) _ (pends_from w s n (record {
        from = k.from;
        below = ⊎_elim (λ lt. lt) (λ ge. absurd (ne (omega (arith, k.below)))) (lt_or_ge n s.next.0);
        pends = ap (λ (p : NumberPlace). is_pending p) (sym (number_old f tick r n k.from (omega (arith, k.below, r.room)) ne)) ∙ k.pends;
      })))
      (equal_or_not n s.next.0))
      (λ h. ⊎_elim
      (λ z. let x : s.next.0 ≡ n = eqb-true _ _ z in
      pends_from w q n (record {
        from = omega (arith, f.bounds.next);
        below = omega arith;
        pends = ap (λ (m : ℕ). is_pending (number_at w q m)) (sym x) ∙ ap (λ (p : NumberPlace). is_pending p) (number_new f tick r);
      }))
      (λ z. let k = pends_at w s n z in
      pends_from w q n (record {
        from = k.from;
        below = omega (arith, k.below);
        pends = ap (λ (p : NumberPlace). is_pending p) (number_old f tick r n k.from (omega (arith, k.below, r.room)) (λ x. omega (arith, k.below))) ∙ k.pends;
      }))
      (or_cases (eqb s.next.0 n) (has_pending w s n) h))

  -- Its block is in flight; all others are as they were.
  pub sent_self : has_acknowledged w (sent_of w s tick c size times top) c ≡ false
  sent_self = placed w q c r.least ∙ ap (λ (b : BlockPlace). is_acknowledged b) (block_new f tick r)

  pub sent_other : (d : ℕ) → d < top → (d ≡ c → ⊥) → has_acknowledged w (sent_of w s tick c size times top) d ≡ has_acknowledged w s d
  sent_other d u ne =
      ⊎_elim
      (λ lt. passed w q d lt ∙ sym (passed w s d lt))
      (λ ge. placed w q d ge
      ∙ ap (λ (b : BlockPlace). is_acknowledged b) (block_old f tick r d ge (omega (arith, r.fits)) ne)
      ∙ sym (placed w s d ge))
      (lt_or_ge d s.channellow.0)

  -- The block was sent so many times now, the others as often as before.
  pub times_self : (block_at w (sent_of w s tick c size times top) c).sends ≡ times
  times_self = ap (λ (b : BlockPlace). b.sends) (block_new f tick r)

  pub times_other : (d : ℕ) → s.channellow.0 ≤ d → d < top → (d ≡ c → ⊥) → (block_at w (sent_of w s tick c size times top) d).sends ≡ (block_at w s d).sends
  times_other d l u ne = ap (λ (b : BlockPlace). b.sends) (block_old f tick r d l (omega (arith, r.fits)) ne)
