-- A history and a record that agree; and that they do so still after numbers turn and after one goes out.
use Rattle.std.specs.Prelude.{ℕ, suc, ◌+◌, ◌≤◌, ◌<◌, Bool, true, false, cond, ◌||◌, List, ◌∷◌, ◌≡◌, refl}
use Rattle.std.proofs.Common.{inl, inr, ◌∙◌, arith, eq-eqb, ne_eqb, lt-ltb, le-ltb}
use Rattle.std.proofs.Math.Logic.{⊎_elim}
use Rattle.std.proofs.Math.Path.{sym, ap, subst}
use Rattle.std.proofs.Math.Dec.{eqb}
use Rattle.common.specs.Facts.{lt_or_ge, bool, clash, not_so, same_bool, or_left}
use Rattle.sender.specs.declared.NumberPlace.{NumberPlace}
use Rattle.sender.specs.declared.Sender.{Sender}
use Rattle.sender.specs.Record.{most_sends, is_in_flight, number_at, block_at}
use Rattle.sender.specs.Turn.{Turn}
use Rattle.sender.specs.Acknowledge.{acknowledging}
use Rattle.sender.specs.Sweep.{losing}
use Rattle.sender.specs.Run.{has_acknowledged}
use Rattle.sender.specs.Send.{sent_of}
use Rattle.sender.specs.Facts.{Facts}
use Rattle.sender.specs.TurnedWants.{Ending, acknowledging_ends, losing_ends, turn_channel, block_chosen, Chosen, chosen_at, chosen_from}
use Rattle.sender.specs.Turned.{Turned, both_hold}
use Rattle.sender.specs.TurnedFacts.{low_from, channel_from, number_held, sends_held}
use Rattle.sender.specs.SentFacts.{Ready, equal_or_not, number_new, number_old}
use Rattle.sender.specs.States.{has_in_flight, has_pending, pends_at, pends_from, turned_pending, turned_unchosen, turned_chosen, sent_pending, sent_self, sent_other, times_self, times_other}
use Rattle.endpoint.specs.Accounts.{Entry, sent, told, swept, count_in, any_in, transmits, transmits_under, new_in, transmissions_in, sends_in, pending_in, names_pending, acknowledged_in, in_flight_in, Gone, InTurn, InOrder}
use Rattle.endpoint.specs.Accounting.Entries.{count_yes, count_no, gone_any, any_gone, gone_once}

pub record Books (w firstdata firstchannel : ℕ) (h : List Entry) (s : Sender) : Type 0 where
  pub in_order : InOrder firstdata firstchannel h
  pub first_block : s.firstchannel.0 ≡ firstchannel
  pub next : s.next.0 ≡ firstdata + transmissions_in h
  pub next_channel : s.channelnext.0 ≡ firstchannel + new_in h
  -- the block that a number's place names has gone out under that number
  pub carried : (n : ℕ) → s.low.0 ≤ n → n < s.next.0 → Gone n (number_at w s n).channel.0 h
  -- both say the same of what is pending, and of which block is acknowledged; of a block that has not begun the history says nothing
  pub pends : (n : ℕ) → has_pending w s n ≡ pending_in h n
  pub says : (c : ℕ) → firstchannel ≤ c → c < s.channelnext.0 → has_acknowledged w s c ≡ acknowledged_in h c
  pub silent : (c : ℕ) → s.channelnext.0 ≤ c → acknowledged_in h c ≡ false
  -- a block's place has its sends, and none has more than the limit
  pub counts : (c : ℕ) → s.channellow.0 ≤ c → c < s.channelnext.0 → (block_at w s c).sends ≡ sends_in h c
  pub limit : (c : ℕ) → sends_in h c ≤ most_sends

module _ {w cap firstdata firstchannel : ℕ} {h : List Entry} {s : Sender} (b : Books w firstdata firstchannel h s) (f : Facts w cap s) where
  -- A block that has gone out under a pending number is the one that the number's place names, and is in flight.
  place_names : (n c : ℕ) → s.low.0 ≤ n → n < s.next.0 → Gone n c h → (number_at w s n).channel.0 ≡ c
  place_names n c l u g = gone_once firstdata firstchannel n (number_at w s n).channel.0 c h b.in_order (b.carried n l u) g

  pub flies_in : (c : ℕ) → c < s.channelnext.0 → has_in_flight w s c ≡ in_flight_in h c
  flies_in c u =
      same_bool _ _
      (λ t. let (l, fly) = standing t in
      let k = f.single c l u fly in
      let p = f.pending k.n k.from k.below k.pends in
      gone_any (pending_in h) c k.n h (subst (λ (d : ℕ). Gone k.n d h) k.brings (b.carried k.n k.from p.within))
      (sym (b.pends k.n) ∙ pends_from w s k.n (record { from = k.from; below = p.within; pends = k.pends })))
      (λ t. let (n, g, y) = any_gone (pending_in h) c h t in
      let k = pends_at w s n (b.pends n ∙ y) in
      let e = place_names n c k.from k.below g in
      let p = f.pending n k.from (omega (arith, k.below, f.bounds.room)) k.pends in
      ap (λ (x : Bool). cond x false (is_in_flight (block_at w s c))) (le-ltb c s.channellow.0 (omega (arith, e, p.least)))
      ∙ ap (λ (d : ℕ). is_in_flight (block_at w s d)) (sym e)
      ∙ p.flies)
    where
      standing : has_in_flight w s c ≡ true → (s.channellow.0 ≤ c) × (is_in_flight (block_at w s c) ≡ true)
      standing t =
          ⊎_elim
          (λ lt. clash (has_in_flight w s c) t (ap (λ (x : Bool). cond x false (is_in_flight (block_at w s c))) (lt-ltb c s.channellow.0 lt)))
          (λ ge. (ge, sym (ap (λ (x : Bool). cond x false (is_in_flight (block_at w s c))) (le-ltb c s.channellow.0 ge)) ∙ t))
          (lt_or_ge c s.channellow.0)

  -- A turn leaves to each number its block, and to each block its count.
  module _ {t : Turn} (e : Ending t) {chosen : ℕ → Bool} {q : Sender} (a : Turned w cap t s chosen q) where
    turned_carried : (n : ℕ) → q.low.0 ≤ n → n < q.next.0 → Gone n (number_at w q n).channel.0 h
    turned_carried n l u =
        let v : n < s.next.0 = omega (arith, a.turning.next) in
        subst (λ (c : ℕ). Gone n c h)
        (sym (ap (λ (p : NumberPlace). p.channel.0) (number_held e f a n l v) ∙ turn_channel t (chosen n) (number_at w s n)))
        (b.carried n (omega (arith, low_from e f a)) v)

    turned_counts : (c : ℕ) → q.channellow.0 ≤ c → c < q.channelnext.0 → (block_at w q c).sends ≡ sends_in h c
    turned_counts c l u =
        let v : c < s.channelnext.0 = omega (arith, a.turning.channelnext) in
        sends_held e f a c l v ∙ b.counts c (omega (arith, channel_from e f a)) v

    turned_pends : (n : ℕ) → has_pending w q n ≡ cond (chosen n) false (pending_in h n)
    turned_pends n = turned_pending e f a n ∙ ap (λ (x : Bool). cond (chosen n) false x) (b.pends n)

  -- Numbers are lost: no block is acknowledged that was not.
  pub swept_books : {loses : ℕ → Bool} {q : Sender} → Turned w cap losing s loses q → Books w firstdata firstchannel (swept loses ∷ h) q
  unfolding count_in pending_in acknowledged_in
  swept_books {loses} {q} a =
      record {
        in_order = b.in_order;
        first_block = a.turning.firstchannel ∙ b.first_block;
        next = a.turning.next ∙ b.next;
        next_channel = a.turning.channelnext ∙ b.next_channel;
        carried = turned_carried losing_ends a;
        pends = turned_pends losing_ends a;
        says = λ c l u.
            let v : c < s.channelnext.0 = omega (arith, a.turning.channelnext) in
            ⊎_elim
            (λ x. let (was, is) = turned_chosen losing_ends f a c (chosen_at w s loses c x) in is ∙ sym was)
            (λ x. turned_unchosen losing_ends f a c v x)
            (bool (block_chosen w s loses c))
            ∙ b.says c l v;
        silent = λ c l. b.silent c (omega (arith, a.turning.channelnext));
        counts = turned_counts losing_ends a;
        limit = b.limit;
      }

  -- Numbers are named: the blocks of those that were pending are acknowledged.
  module _ {names : ℕ → Bool} {q : Sender} (a : Turned w cap acknowledging s names q) where
    named_chosen : (c : ℕ) → any_in (transmits_under (names_pending names h) c) h ≡ true → Chosen w s names c
    named_chosen c x =
        let (n, g, y) = any_gone (names_pending names h) c h x in
        let (t, z) = both_hold (names n) (pending_in h n) y in
        let k = pends_at w s n (b.pends n ∙ z) in
        record {
          n = n;
          from = k.from;
          below = omega (arith, k.below, f.bounds.room);
          pends = k.pends;
          told = t;
          brings = place_names n c k.from k.below g;
        }

    chosen_named : (c : ℕ) → Chosen w s names c → any_in (transmits_under (names_pending names h) c) h ≡ true
    chosen_named c k =
        let u = (f.pending k.n k.from k.below k.pends).within in
        gone_any (names_pending names h) c k.n h (subst (λ (d : ℕ). Gone k.n d h) k.brings (b.carried k.n k.from u))
        (ap (λ (x : Bool). cond x (pending_in h k.n) false) k.told
        ∙ sym (b.pends k.n)
        ∙ pends_from w s k.n (record { from = k.from; below = u; pends = k.pends }))

    not_named : (c : ℕ) → (Chosen w s names c → ⊥) → any_in (transmits_under (names_pending names h) c) h ≡ false
    not_named c never = not_so _ (λ x. never (named_chosen c x))

    pub told_books : Books w firstdata firstchannel (told names ∷ h) q
    unfolding count_in pending_in acknowledged_in
    told_books =
        record {
          in_order = b.in_order;
          first_block = a.turning.firstchannel ∙ b.first_block;
          next = a.turning.next ∙ b.next;
          next_channel = a.turning.channelnext ∙ b.next_channel;
          carried = turned_carried acknowledging_ends a;
          pends = turned_pends acknowledging_ends a;
          says = λ c l u.
              let v : c < s.channelnext.0 = omega (arith, a.turning.channelnext) in
              ⊎_elim
              (λ x. let k = chosen_at w s names c x in
              (turned_chosen acknowledging_ends f a c k).1 ∙ sym (or_left (any_in (transmits_under (names_pending names h) c) h) (acknowledged_in h c) (chosen_named c k)))
              (λ x. turned_unchosen acknowledging_ends f a c v x
              ∙ b.says c l v
              ∙ sym (ap (λ (y : Bool). y || acknowledged_in h c) (not_named c (λ k. clash (block_chosen w s names c) (chosen_from w s names c k) x))))
              (bool (block_chosen w s names c));
          silent = λ c l.
              ap (λ (y : Bool). y || acknowledged_in h c)
              (not_named c (λ k. omega (arith, (f.pending k.n k.from k.below k.pends).most, k.brings, a.turning.channelnext)))
              ∙ b.silent c (omega (arith, a.turning.channelnext));
          counts = turned_counts acknowledging_ends a;
          limit = b.limit;
        }

  -- The next number goes out with block c, which is not acknowledged and has been sent once less; as a new block or again.
  module _ (again : Bool) (tick : ℕ) {c size times top : ℕ} (r : Ready w s c size times top) (turn : InTurn again firstchannel (new_in h) c)
      (never : acknowledged_in h c ≡ false) (once : times ≡ suc (sends_in h c)) (rises : top ≡ firstchannel + new_in (sent again s.next.0 c ∷ h)) where
    abbrev q : Sender
    q = sent_of w s tick c size times top

    abbrev grown : List Entry
    grown = sent again s.next.0 c ∷ h

    sent_carried : (n : ℕ) → s.low.0 ≤ n → n < s.next.0 + 1 → Gone n (number_at w q n).channel.0 grown
    sent_carried n l u =
        ⊎_elim
        (λ e. inl (e, ap (λ (m : ℕ). (number_at w q m).channel.0) e ∙ ap (λ (p : NumberPlace). p.channel.0) (number_new f tick r)))
        (λ ne. let lt : n < s.next.0 = ⊎_elim (λ x. x) (λ x. absurd (ne (omega arith))) (lt_or_ge n s.next.0) in
        inr (subst (λ (d : ℕ). Gone n d h) (sym (ap (λ (p : NumberPlace). p.channel.0) (number_old f tick r n l (omega (arith, r.room)) ne))) (b.carried n l lt)))
        (equal_or_not n s.next.0)

    sends_self : sends_in grown c ≡ times
    sends_self = count_yes (transmits c) (sent again s.next.0 c) h (eq-eqb c c refl) ∙ sym once

    sends_other : (d : ℕ) → (d ≡ c → ⊥) → sends_in grown d ≡ sends_in h d
    sends_other d ne = count_no (transmits d) (sent again s.next.0 c) h (ne_eqb c d (λ e. ne (sym e)))

    pub sent_books : Books w firstdata firstchannel (sent again s.next.0 c ∷ h) (sent_of w s tick c size times top)
    unfolding count_in pending_in acknowledged_in
    sent_books =
        record {
          in_order = (b.next, turn, b.in_order);
          first_block = b.first_block;
          next = omega (arith, b.next);
          next_channel = rises;
          carried = sent_carried;
          pends = λ n. sent_pending f tick r n ∙ ap (λ (x : Bool). eqb s.next.0 n || x) (b.pends n);
          says = λ d l u.
              ⊎_elim
              (λ e. ap (has_acknowledged w q) e ∙ sent_self f tick r ∙ sym (ap (acknowledged_in h) e ∙ never))
              (λ ne. sent_other f tick r d u ne ∙ b.says d l (r.others d u ne))
              (equal_or_not d c);
          silent = λ d l. b.silent d (omega (arith, r.rises));
          counts = λ d l u.
              ⊎_elim
              (λ e. ap (λ (x : ℕ). (block_at w q x).sends) e ∙ times_self f tick r ∙ sym (ap (sends_in grown) e ∙ sends_self))
              (λ ne. times_other f tick r d l u ne ∙ b.counts d l (r.others d u ne) ∙ sym (sends_other d ne))
              (equal_or_not d c);
          limit = λ d.
              ⊎_elim
              (λ e. subst (λ (x : ℕ). sends_in grown x ≤ most_sends) (sym e) (omega (arith, sends_self, r.few)))
              (λ ne. omega (arith, sends_other d ne, b.limit d))
              (equal_or_not d c);
        }
