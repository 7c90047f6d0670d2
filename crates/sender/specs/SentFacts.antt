-- A record from which the next number has gone out is as consistent as it was: a new block and a block that is sent again alike.
use Rattle.std.specs.Prelude.{ℕ, ◌+◌, ◌%◌, ◌≤◌, ◌<◌, true, false, ◌⊎◌, ◌≡◌, refl, eqb}
use Rattle.std.proofs.Common.{inl, inr, ⊎_elim, sym, ◌∙◌, ap, subst, mod-lt, arith, length-set, get_or-set_same, get_or-set_other, eqb-true}
use Rattle.std.proofs.lemmas.Bool.{eqb-false}
use Rattle.common.specs.Facts.{lt_or_ge, bool, clash}
use Rattle.numbers.specs.Full.{highest, past_highest}
use Rattle.window.specs.Places.{place_same}
use Rattle.sender.specs.declared.NumberPlace.{NumberPlace}
use Rattle.sender.specs.declared.BlockPlace.{BlockPlace}
use Rattle.sender.specs.declared.Sender.{Sender}
use Rattle.sender.specs.Record.{longest_sent, most_sends, pending, in_flight, is_pending, is_in_flight, number_passes, block_passes, no_number, no_block, number_at, block_at}
use Rattle.sender.specs.Send.{sent_of}
use Rattle.sender.specs.Facts.{Out, Done, Carrier, Facts}
use Rattle.sender.specs.TurnedWants.{resting}

-- what the refusals of both calls have ruled out: block c may go out, for the times-th time, and channel next comes to stand at top
pub record Ready (w : ℕ) (s : Sender) (c size times top : ℕ) : Type 0 where
  pub short : size ≤ longest_sent
  pub begun : 1 ≤ times
  pub few : times ≤ most_sends
  pub left : s.next.0 ≤ highest
  pub room : s.next.0 < s.low.0 + w
  pub least : s.channellow.0 ≤ c
  pub most : c < top
  pub rises : s.channelnext.0 ≤ top
  pub full : top ≤ past_highest
  pub fits : top ≤ s.channellow.0 + w
  -- all others below top were in range before
  pub others : (d : ℕ) → d < top → (d ≡ c → ⊥) → d < s.channelnext.0
  pub idle : is_in_flight (block_at w s c) ≡ false

-- Two numbers are one, or not.
pub equal_or_not : (n m : ℕ) → (n ≡ m) ⊎ (n ≡ m → ⊥)
equal_or_not n m = ⊎_elim (λ t. inl (eqb-true n m t)) (λ t. inr (eqb-false n m t)) (bool (eqb n m))

module _ {w cap : ℕ} {s : Sender} (f : Facts w cap s) (tick : ℕ) {c size times top : ℕ} (r : Ready w s c size times top) where
  abbrev pub q : Sender
  q = sent_of w s tick c size times top

  abbrev pub goes_out : NumberPlace
  goes_out = record { state = pending; channel = record { 0 = c }; tick = tick }

  abbrev pub flies : BlockPlace
  flies = record { state = in_flight; sends = times; length = size }

  -- The places of the number and of the block, and all others.
  pub number_new : number_at w q s.next.0 ≡ goes_out
  number_new =
      let l : s.next.0 % w < w = mod-lt s.next.0 f.some in
      get_or-set_same s.numbers (s.next.0 % w) goes_out no_number (omega (arith, f.numbers, f.fits))

  pub number_old : (n : ℕ) → s.low.0 ≤ n → n < s.low.0 + w → (n ≡ s.next.0 → ⊥) → number_at w q n ≡ number_at w s n
  number_old n l u ne =
      get_or-set_other s.numbers (s.next.0 % w) (n % w) goes_out no_number
      (λ z. ne (place_same w s.low.0 n s.next.0 l u f.bounds.next r.room z))

  pub block_new : block_at w q c ≡ flies
  block_new =
      let l : c % w < w = mod-lt c f.some in
      get_or-set_same s.blocks (c % w) flies no_block (omega (arith, f.blocks, f.fits))

  pub block_old : (d : ℕ) → s.channellow.0 ≤ d → d < s.channellow.0 + w → (d ≡ c → ⊥) → block_at w q d ≡ block_at w s d
  block_old d l u ne =
      get_or-set_other s.blocks (c % w) (d % w) flies no_block
      (λ z. ne (place_same w s.channellow.0 d c l u r.least (omega (arith, r.most, r.fits)) z))

  -- A number that was pending is not next, and carries another block.
  pending_old : (n : ℕ) → is_pending (number_at w s n) ≡ true → n ≡ s.next.0 → ⊥
  pending_old n p z =
      clash (is_pending (number_at w s n)) p
      (ap (λ (m : ℕ). is_pending (number_at w s m)) z ∙ ap (λ (x : NumberPlace). is_pending x) (f.unused s.next.0 (omega arith) r.room))

  pending_was : (n : ℕ) → s.low.0 ≤ n → n < s.low.0 + w → (n ≡ s.next.0 → ⊥) → is_pending (number_at w q n) ≡ true → is_pending (number_at w s n) ≡ true
  pending_was n l u ne h = ap (λ (x : NumberPlace). is_pending x) (sym (number_old n l u ne)) ∙ h

  not_carried : (n : ℕ) → s.low.0 ≤ n → n < s.low.0 + w → is_pending (number_at w s n) ≡ true → (number_at w s n).channel.0 ≡ c → ⊥
  not_carried n l u p z =
      clash (is_in_flight (block_at w s c)) (ap (λ (d : ℕ). is_in_flight (block_at w s d)) (sym z) ∙ (f.pending n l u p).flies) r.idle

  out_sent : (n : ℕ) → s.low.0 ≤ n → n < s.low.0 + w → is_pending (number_at w q n) ≡ true → Out w q n
  out_sent n l u h =
      ⊎_elim
      (λ z. let ch : (number_at w q n).channel.0 ≡ c = ap (λ (m : ℕ). (number_at w q m).channel.0) z ∙ ap (λ (x : NumberPlace). x.channel.0) number_new in
      record {
        within = omega arith;
        least = omega (arith, ch, r.least);
        most = omega (arith, ch, r.most);
        flies = ap (λ (d : ℕ). is_in_flight (block_at w q d)) ch ∙ ap (λ (x : BlockPlace). is_in_flight x) block_new;
      })
      (λ ne. let p = pending_was n l u ne h in
      let k = f.pending n l u p in
      let ch : (number_at w q n).channel.0 ≡ (number_at w s n).channel.0 = ap (λ (x : NumberPlace). x.channel.0) (number_old n l u ne) in
      record {
        within = omega (arith, k.within);
        least = omega (arith, ch, k.least);
        most = omega (arith, ch, k.most, r.rises);
        flies = ap (λ (d : ℕ). is_in_flight (block_at w q d)) ch
            ∙ ap (λ (x : BlockPlace). is_in_flight x)
            (block_old (number_at w s n).channel.0 k.least (omega (arith, k.most, f.bounds.channelroom)) (not_carried n l u p))
            ∙ k.flies;
      })
      (equal_or_not n s.next.0)

  done_sent : (n : ℕ) → s.low.0 ≤ n → n < s.next.0 + 1 → is_pending (number_at w q n) ≡ false → Done w q n
  done_sent n l u h =
      ⊎_elim
      (λ z. clash (is_pending (number_at w q n))
      (ap (λ (m : ℕ). is_pending (number_at w q m)) z ∙ ap (λ (x : NumberPlace). is_pending x) number_new) h)
      (λ ne. let o = number_old n l (omega (arith, r.room)) ne in
      let lt : n < s.next.0 = ⊎_elim (λ y. y) (λ y. absurd (ne (omega arith))) (lt_or_ge n s.next.0) in
      let k = f.done n l lt (ap (λ (x : NumberPlace). is_pending x) (sym o) ∙ h) in
      let ch : (number_at w q n).channel.0 ≡ (number_at w s n).channel.0 = ap (λ (x : NumberPlace). x.channel.0) o in
      record { passes = ap number_passes o ∙ k.passes; least = omega (arith, ch, k.least); most = omega (arith, ch, k.most, r.rises) })
      (equal_or_not n s.next.0)

  -- What holds of the block that goes out, and held of the others, holds of each.
  each_block : (P : BlockPlace → Type 0) (d : ℕ) → s.channellow.0 ≤ d → d < top → P flies → (d < s.channelnext.0 → P (block_at w s d)) → P (block_at w q d)
  each_block P d l u new old =
      ⊎_elim
      (λ z. subst P (sym (ap (λ (x : ℕ). block_at w q x) z ∙ block_new)) new)
      (λ ne. subst P (sym (block_old d l (omega (arith, r.fits)) ne)) (old (r.others d u ne)))
      (equal_or_not d c)

  carrier_sent : (d : ℕ) → s.channellow.0 ≤ d → d < top → is_in_flight (block_at w q d) ≡ true → Carrier w q d
  carrier_sent d l u h =
      ⊎_elim
      (λ z. record {
        n = s.next.0;
        from = f.bounds.next;
        below = r.room;
        pends = ap (λ (x : NumberPlace). is_pending x) number_new;
        brings = ap (λ (x : NumberPlace). x.channel.0) number_new ∙ sym z;
      })
      (λ ne. let k = f.single d l (r.others d u ne) (ap (λ (x : BlockPlace). is_in_flight x) (sym (block_old d l (omega (arith, r.fits)) ne)) ∙ h) in
      let o = number_old k.n k.from k.below (pending_old k.n k.pends) in
      record {
        n = k.n;
        from = k.from;
        below = k.below;
        pends = ap (λ (x : NumberPlace). is_pending x) o ∙ k.pends;
        brings = ap (λ (x : NumberPlace). x.channel.0) o ∙ k.brings;
      })
      (equal_or_not d c)

  no_clash : (n m : ℕ) → n ≡ s.next.0 → s.low.0 ≤ m → m < s.low.0 + w → (m ≡ s.next.0 → ⊥) → is_pending (number_at w q m) ≡ true
      → (number_at w q n).channel.0 ≡ (number_at w q m).channel.0 → ⊥
  no_clash n m z l u ne h k =
      not_carried m l u (pending_was m l u ne h)
      (ap (λ (x : NumberPlace). x.channel.0) (sym (number_old m l u ne))
      ∙ sym k
      ∙ ap (λ (x : ℕ). (number_at w q x).channel.0) z
      ∙ ap (λ (x : NumberPlace). x.channel.0) number_new)

  only_sent : (n m : ℕ) → s.low.0 ≤ n → n < s.low.0 + w → s.low.0 ≤ m → m < s.low.0 + w
      → is_pending (number_at w q n) ≡ true → is_pending (number_at w q m) ≡ true → (number_at w q n).channel.0 ≡ (number_at w q m).channel.0 → n ≡ m
  only_sent n m ln un lm um pn pm k =
      ⊎_elim
      (λ x. ⊎_elim (λ y. x ∙ sym y) (λ y. absurd (no_clash n m x lm um y pm k)) (equal_or_not m s.next.0))
      (λ x. ⊎_elim
      (λ y. absurd (no_clash m n y ln un x pn (sym k)))
      (λ y. f.only n m ln un lm um (pending_was n ln un x pn) (pending_was m lm um y pm)
      (ap (λ (z : NumberPlace). z.channel.0) (sym (number_old n ln un x)) ∙ k ∙ ap (λ (z : NumberPlace). z.channel.0) (number_old m lm um y)))
      (equal_or_not m s.next.0))
      (equal_or_not n s.next.0)

  pub sent_facts : Facts w cap (sent_of w s tick c size times top)
  sent_facts =
      let o = f.bounds in
      record {
        some = f.some;
        fits = f.fits;
        numbers = length-set s.numbers (s.next.0 % w) goes_out ∙ f.numbers;
        blocks = length-set s.blocks (c % w) flies ∙ f.blocks;
        bounds = record {
          firstdata = o.firstdata;
          firstchannel = o.firstchannel;
          shortest = o.shortest;
          longest = o.longest;
          low = o.low;
          next = omega (arith, o.next);
          full = omega (arith, r.left);
          room = omega (arith, r.room);
          channellow = o.channellow;
          channelnext = omega (arith, o.channelnext, r.rises);
          channelfull = r.full;
          channelroom = r.fits;
        };
        low_stands = ⊎_elim
            (λ z. ap (λ (n : ℕ). number_passes (number_at w q n)) z ∙ ap number_passes number_new)
            (λ ne. ap number_passes (number_old s.low.0 (omega arith) (omega (arith, f.some)) ne) ∙ f.low_stands)
            (equal_or_not s.low.0 s.next.0);
        channel_stands = ⊎_elim
            (λ z. ap (λ (d : ℕ). block_passes (block_at w q d)) z ∙ ap block_passes block_new)
            (λ ne. ap block_passes (block_old s.channellow.0 (omega arith) (omega (arith, f.some)) ne) ∙ f.channel_stands)
            (equal_or_not s.channellow.0 c);
        pending = out_sent;
        done = done_sent;
        unused = λ n l u. number_old n (omega (arith, o.next)) u (λ z. omega arith) ∙ f.unused n (omega arith) u;
        short = λ d l u. each_block (λ (b : BlockPlace). b.length ≤ longest_sent) d l u r.short (λ v. f.short d l v);
        begun = λ d l u. each_block (λ (b : BlockPlace). 1 ≤ b.sends) d l u r.begun (λ v. f.begun d l v);
        few = λ d l u. each_block (λ (b : BlockPlace). b.sends ≤ most_sends) d l u r.few (λ v. f.few d l v);
        rests = λ d l u.
            each_block (λ (b : BlockPlace). is_in_flight b ≡ false → resting b ≡ true) d l u (λ h. clash true refl h) (λ v. f.rests d l v);
        vacant = λ d l u. block_old d (omega (arith, o.channelnext, r.rises)) u (λ z. omega (arith, r.most)) ∙ f.vacant d (omega (arith, r.rises)) u;
        single = carrier_sent;
        only = only_sent;
        spare_numbers = λ i l.
            let z : s.next.0 % w < w = mod-lt s.next.0 f.some in
            get_or-set_other s.numbers (s.next.0 % w) i goes_out no_number (λ e. omega arith) ∙ f.spare_numbers i l;
        spare_blocks = λ i l.
            let z : c % w < w = mod-lt c f.some in
            get_or-set_other s.blocks (c % w) i flies no_block (λ e. omega arith) ∙ f.spare_blocks i l;
      }
