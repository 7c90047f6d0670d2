-- A record in which chosen numbers have turned is as consistent as it was.
use Rattle.std.specs.Prelude.{ℕ, ◌+◌, ◌≤◌, ◌<◌, Bool, true, false, cond, ◌≡◌, refl, eqb, ltb}
use Rattle.std.proofs.Common.{⊎_elim, sym, ◌∙◌, ap, arith, eqb-true, eq-eqb, ne_eqb, lt-ltb, le-ltb}
use Rattle.std.proofs.lemmas.Bool.{eqb-false}
use Rattle.common.specs.Facts.{lt_or_ge, bool, clash}
use Rattle.window.specs.Sliding.{base_high_lem}
use Rattle.sender.specs.declared.NumberPlace.{NumberPlace}
use Rattle.sender.specs.declared.BlockPlace.{BlockPlace}
use Rattle.sender.specs.declared.Sender.{Sender}
use Rattle.sender.specs.Record.{pending, in_flight, is_pending, is_in_flight, number_passes, block_passes, no_number, no_block, number_at, block_at}
use Rattle.sender.specs.Consistent.{consistent_of}
use Rattle.sender.specs.Turn.{Turn, turned_of}
use Rattle.sender.specs.Facts.{Bounds, Out, Done, Carrier, Facts, number_shape, block_shape, consistent_facts, facts_consistent}
use Rattle.sender.specs.TurnedWants.{Ending, turn_number, turn_not, turn_unchosen, turn_chosen, turn_channel, turn_block, block_unchosen, block_chosen_lem, block_length, block_sends, block_flies, resting, block_rests, block_chosen, chosen_from, not_chosen, want_number, want_block, want_number_lem, want_number_off, want_block_lem, want_block_off}
use Rattle.sender.specs.Remembering.{turned_window}
use Rattle.sender.specs.Turned.{Turning, Turned, pending_before, pending_after, block_after, turned_is, turned_only, turned_none, nothing}

module _ {w cap : ℕ} {t : Turn} {s : Sender} (e : Ending t) (f : Facts w cap s) where
  -- Nothing is wanted from next on, nor from channel next on.
  number_past : (chosen : ℕ → Bool) (n : ℕ) → s.next.0 ≤ n → want_number w t s chosen n ≡ no_number
  number_past chosen n l =
      ⊎_elim
      (λ lt. let k = f.unused n l lt in want_number_lem w t s chosen n lt ∙ turn_not t (chosen n) (number_at w s n) (ap (λ (z : NumberPlace). is_pending z) k) ∙ k)
      (λ ge. want_number_off w t s chosen n ge)
      (lt_or_ge n (s.low.0 + w))

  block_past : (chosen : ℕ → Bool) (c : ℕ) → s.channelnext.0 ≤ c → want_block w t s chosen c ≡ no_block
  block_past chosen c l =
      ⊎_elim
      (λ lt. want_block_lem w t s chosen c lt
      ∙ block_unchosen t _ (block_at w s c)
      (not_chosen w s chosen c (λ k. omega (arith, (f.pending k.n k.from k.below k.pends).most, k.brings)))
      ∙ f.vacant c l lt)
      (λ ge. want_block_off w t s chosen c ge)
      (lt_or_ge c (s.channellow.0 + w))

  module _ {chosen : ℕ → Bool} {q : Sender} (a : Turned w cap t s chosen q) where
    abbrev b : Turning w cap t s chosen q
    b = a.turning

    pub low_from : s.low.0 ≤ q.low.0
    low_from = b.numbers.from

    low_most : q.low.0 ≤ s.next.0
    low_most = base_high_lem (number_shape f.some f.fits) b.numbers s.next.0 f.bounds.next (number_past chosen s.next.0 (omega arith))

    pub channel_from : s.channellow.0 ≤ q.channellow.0
    channel_from = b.blocks.from

    channel_most : q.channellow.0 ≤ s.channelnext.0
    channel_most =
        base_high_lem (block_shape f.some f.fits) b.blocks s.channelnext.0 f.bounds.channelnext (block_past chosen s.channelnext.0 (omega arith))

    -- The places in range.
    pub number_held : (n : ℕ) → q.low.0 ≤ n → n < s.next.0 → number_at w q n ≡ turn_number t (chosen n) (number_at w s n)
    number_held n l u =
        b.numbers.holds n l (omega (arith, low_from, f.bounds.room)) ∙ want_number_lem w t s chosen n (omega (arith, f.bounds.room))

    pub block_held : (c : ℕ) → q.channellow.0 ≤ c → c < s.channelnext.0 → block_at w q c ≡ turn_block t (block_chosen w s chosen c) (block_at w s c)
    block_held c l u =
        b.blocks.holds c l (omega (arith, channel_from, f.bounds.channelroom)) ∙ want_block_lem w t s chosen c (omega (arith, f.bounds.channelroom))

    -- How often a block was sent does not move.
    pub sends_held : (c : ℕ) → q.channellow.0 ≤ c → c < s.channelnext.0 → (block_at w q c).sends ≡ (block_at w s c).sends
    sends_held c l u = ap (λ (z : BlockPlace). z.sends) (block_held c l u) ∙ block_sends t _ (block_at w s c)

    -- A number that was pending has turned exactly if it was chosen: low has passed it, or its place says so.
    pub turned_exactly : (n : ℕ) → s.low.0 ≤ n → n < s.next.0 → is_pending (number_at w s n) ≡ true
        → cond (ltb n q.low.0) true (eqb (number_at w q n).state t.number) ≡ chosen n
    turned_exactly n l u p =
        ⊎_elim
        (λ y. ⊎_elim
        (λ lt. ap (λ (x : Bool). cond x true (eqb (number_at w q n).state t.number)) (lt-ltb n q.low.0 lt) ∙ sym y)
        (λ ge. ap (λ (x : Bool). cond x true (eqb (number_at w q n).state t.number)) (le-ltb n q.low.0 ge)
        ∙ eq-eqb _ _ (ap (λ (z : NumberPlace). z.state) (number_held n ge u ∙ turn_chosen t (chosen n) (number_at w s n) y p))
        ∙ sym y)
        (lt_or_ge n q.low.0))
        (λ y. let (ge, k) = pending_after e f b n l (omega (arith, f.bounds.room)) p y in
        let z : (number_at w q n).state ≡ pending = ap (λ (z : NumberPlace). z.state) k ∙ eqb-true (number_at w s n).state pending p in
        ap (λ (x : Bool). cond x true (eqb (number_at w q n).state t.number)) (le-ltb n q.low.0 ge)
        ∙ ne_eqb _ _ (λ x. eqb-false t.number pending e.ended (sym x ∙ z))
        ∙ sym y)
        (bool (chosen n))

    -- So has its block.
    pub block_exactly : (n : ℕ) → s.low.0 ≤ n → n < s.next.0 → is_pending (number_at w s n) ≡ true
        → cond (ltb (number_at w s n).channel.0 q.channellow.0) true (eqb (block_at w q (number_at w s n).channel.0).state t.block) ≡ chosen n
    block_exactly n l u p =
        ⊎_elim
        (λ y. ⊎_elim
        (λ lt. ap (λ (x : Bool). cond x true (eqb (block_at w q c).state t.block)) (lt-ltb c q.channellow.0 lt) ∙ sym y)
        (λ ge. ap (λ (x : Bool). cond x true (eqb (block_at w q c).state t.block)) (le-ltb c q.channellow.0 ge)
        ∙ eq-eqb _ _ (ap (λ (z : BlockPlace). z.state) (block_held c ge out.most ∙ block_chosen_lem t _ (block_at w s c) (told y)))
        ∙ sym y)
        (lt_or_ge c q.channellow.0))
        (λ y. let (x, ge, k) = block_after e f b n l v p y in
        let z : (block_at w q c).state ≡ in_flight = ap (λ (z : BlockPlace). z.state) k ∙ eqb-true (block_at w s c).state in_flight out.flies in
        ap (λ (x : Bool). cond x true (eqb (block_at w q c).state t.block)) (le-ltb c q.channellow.0 ge)
        ∙ ne_eqb _ _ (λ x. eqb-false t.block in_flight e.lands (sym x ∙ z))
        ∙ sym y)
        (bool (chosen n))
      where
        v : n < s.low.0 + w
        v = omega (arith, f.bounds.room)

        c : ℕ
        c = (number_at w s n).channel.0

        out : Out w s n
        out = f.pending n l v p

        told : chosen n ≡ true → block_chosen w s chosen c ≡ true
        told y = chosen_from w s chosen c (record { n = n; from = l; below = v; pends = p; told = y; brings = refl })

    bounds_kept : Bounds w q
    bounds_kept =
        let o = f.bounds in
        record {
          firstdata = omega (arith, b.firstdata, o.firstdata);
          firstchannel = omega (arith, b.firstchannel, o.firstchannel);
          shortest = omega (arith, b.timeout, o.shortest);
          longest = omega (arith, b.timeout, o.longest);
          low = omega (arith, b.firstdata, o.low, low_from);
          next = omega (arith, b.next, low_most);
          full = omega (arith, b.next, o.full);
          room = omega (arith, b.next, o.room, low_from);
          channellow = omega (arith, b.firstchannel, o.channellow, channel_from);
          channelnext = omega (arith, b.channelnext, channel_most);
          channelfull = omega (arith, b.channelnext, o.channelfull);
          channelroom = omega (arith, b.channelnext, o.channelroom, channel_from);
        }

    out_kept : (n : ℕ) → q.low.0 ≤ n → n < q.low.0 + w → is_pending (number_at w q n) ≡ true → Out w q n
    out_kept n l u h =
        let (lt, p, out, k) = pending_before e f b n l u h in
        let ln : s.low.0 ≤ n = omega (arith, low_from) in
        let o = f.pending n ln lt p in
        let (x, ge, z) = block_after e f b n ln lt p out in
        let ch : (number_at w q n).channel.0 ≡ (number_at w s n).channel.0 = ap (λ (z : NumberPlace). z.channel.0) k in
        record {
          within = omega (arith, b.next, o.within);
          least = omega arith;
          most = omega (arith, b.channelnext, o.most);
          flies = ap (λ (c : ℕ). is_in_flight (block_at w q c)) ch ∙ ap (λ (z : BlockPlace). is_in_flight z) z ∙ o.flies;
        }

    done_kept : (n : ℕ) → q.low.0 ≤ n → n < s.next.0 → is_pending (number_at w q n) ≡ false → Done w q n
    done_kept n l u h =
        let k = number_held n l u in
        let ln : s.low.0 ≤ n = omega (arith, low_from) in
        let lt : n < s.low.0 + w = omega (arith, f.bounds.room) in
        let ch : (number_at w q n).channel.0 ≡ (number_at w s n).channel.0 =
        ap (λ (z : NumberPlace). z.channel.0) k ∙ turn_channel t (chosen n) (number_at w s n) in
        ⊎_elim
        (λ p. let o = f.pending n ln lt p in
        let y : chosen n ≡ true =
        ⊎_elim
        (λ x. x)
        (λ x. clash (is_pending (number_at w q n)) (ap (λ (z : NumberPlace). is_pending z) (k ∙ turn_unchosen t (chosen n) (number_at w s n) x) ∙ p) h)
        (bool (chosen n)) in
        record {
          passes = ap number_passes (k ∙ turn_chosen t (chosen n) (number_at w s n) y p) ∙ e.passes;
          least = omega (arith, b.firstchannel, f.bounds.channellow, o.least);
          most = omega (arith, b.channelnext, o.most);
        })
        (λ p. let o = f.done n ln u p in
        record {
          passes = ap number_passes (k ∙ turn_not t (chosen n) (number_at w s n) p) ∙ o.passes;
          least = omega (arith, b.firstchannel, o.least);
          most = omega (arith, b.channelnext, o.most);
        })
        (bool (is_pending (number_at w s n)))

    rests_kept : (c : ℕ) → q.channellow.0 ≤ c → c < s.channelnext.0 → is_in_flight (block_at w q c) ≡ false → resting (block_at w q c) ≡ true
    rests_kept c l u h =
        let k = block_held c l u in
        ap (λ (z : BlockPlace). resting z) k
        ∙ block_rests e (block_chosen w s chosen c) (block_at w s c)
        (λ x. f.rests c (omega (arith, channel_from)) u
        (ap (λ (z : BlockPlace). is_in_flight z) (sym (k ∙ block_unchosen t _ (block_at w s c) x)) ∙ h))

    carrier_kept : (c : ℕ) → q.channellow.0 ≤ c → c < s.channelnext.0 → is_in_flight (block_at w q c) ≡ true → Carrier w q c
    carrier_kept c l u h =
        let (fl, x) = block_flies e (block_chosen w s chosen c) (block_at w s c) (ap (λ (z : BlockPlace). is_in_flight z) (sym (block_held c l u)) ∙ h) in
        let k = f.single c (omega (arith, channel_from)) u fl in
        let y : chosen k.n ≡ false =
        ⊎_elim
        (λ z. clash (block_chosen w s chosen c)
        (chosen_from w s chosen c (record { n = k.n; from = k.from; below = k.below; pends = k.pends; told = z; brings = k.brings })) x)
        (λ z. z)
        (bool (chosen k.n)) in
        let (ge, m) = pending_after e f b k.n k.from k.below k.pends y in
        record {
          n = k.n;
          from = ge;
          below = omega (arith, k.below, low_from);
          pends = ap (λ (z : NumberPlace). is_pending z) m ∙ k.pends;
          brings = ap (λ (z : NumberPlace). z.channel.0) m ∙ k.brings;
        }

    only_kept : (n m : ℕ) → q.low.0 ≤ n → n < q.low.0 + w → q.low.0 ≤ m → m < q.low.0 + w
        → is_pending (number_at w q n) ≡ true → is_pending (number_at w q m) ≡ true → (number_at w q n).channel.0 ≡ (number_at w q m).channel.0 → n ≡ m
    only_kept n m ln un lm um pn pm h =
        let (un', pn', x, kn) = pending_before e f b n ln un pn in
        let (um', pm', y, km) = pending_before e f b m lm um pm in
        f.only n m (omega (arith, low_from)) un' (omega (arith, low_from)) um' pn' pm'
        (ap (λ (z : NumberPlace). z.channel.0) (sym kn) ∙ h ∙ ap (λ (z : NumberPlace). z.channel.0) km)

    pub turned_facts : Facts w cap q
    turned_facts =
        record {
          some = f.some;
          fits = f.fits;
          numbers = b.numbers.size;
          blocks = b.blocks.size;
          bounds = bounds_kept;
          low_stands = ap number_passes (b.numbers.holds q.low.0 (omega arith) (omega (arith, f.some))) ∙ a.low_stands;
          channel_stands = ap block_passes (b.blocks.holds q.channellow.0 (omega arith) (omega (arith, f.some))) ∙ a.channel_stands;
          pending = out_kept;
          done = λ n l u h. done_kept n l (omega (arith, b.next)) h;
          unused = λ n l u. b.numbers.holds n (omega (arith, b.next, low_most)) u ∙ number_past chosen n (omega (arith, b.next));
          short = λ c l u.
              let v : c < s.channelnext.0 = omega (arith, b.channelnext) in
              let k = ap (λ (z : BlockPlace). z.length) (block_held c l v) ∙ block_length t _ (block_at w s c) in
              omega (arith, k, f.short c (omega (arith, channel_from)) v);
          begun = λ c l u. let v : c < s.channelnext.0 = omega (arith, b.channelnext) in omega (arith, sends_held c l v, f.begun c (omega (arith, channel_from)) v);
          few = λ c l u. let v : c < s.channelnext.0 = omega (arith, b.channelnext) in omega (arith, sends_held c l v, f.few c (omega (arith, channel_from)) v);
          rests = λ c l u h. rests_kept c l (omega (arith, b.channelnext)) h;
          vacant = λ c l u. b.blocks.holds c (omega (arith, b.channelnext, channel_most)) u ∙ block_past chosen c (omega (arith, b.channelnext));
          single = λ c l u h. carrier_kept c l (omega (arith, b.channelnext)) h;
          only = only_kept;
          spare_numbers = b.numbers.spare;
          spare_blocks = b.blocks.spare;
        }

-- Turning keeps a record consistent, whatever is chosen.
pub turned_keeps : (w cap : ℕ) (t : Turn) → Ending t → (chosen : ℕ → Bool) (s : Sender) → 0 < w → w ≤ cap → consistent_of w cap s ≡ true
    → consistent_of w cap (turned_of w t chosen s) ≡ true
turned_keeps w cap t e chosen s lw uw h =
    let f = consistent_facts w cap s lw uw h in facts_consistent w cap (turned_of w t chosen s) (turned_facts e f (turned_is e f chosen))

module _ (w cap : ℕ) (t : Turn) (e : Ending t) (s : Sender) (lw : 0 < w) (uw : w ≤ cap) (h : consistent_of w cap s ≡ true) where
  -- Choosing nothing changes nothing.
  pub turned_nothing : turned_of w t nothing s ≡ s
  turned_nothing = let k = consistent_facts w cap s lw uw h in turned_only e k (turned_is e k nothing) (turned_none e k) (turned_window w t nothing s)
