-- A record in which the chosen numbers have turned is told by what each place holds and by where the lows stand. Turning makes such a record, and turning again
-- makes the one of both choices.
use Prim.Native.Nat.{ℕ, zero, suc, ◌+◌, ◌≤◌, ◌<◌}
use Rattle.std.specs.Prelude.{Bool, true, ◌||◌, ◌≡◌, refl, eqb, ltb}
use Rattle.std.proofs.Math.Bool.{false, cond}
use Rattle.std.proofs.Math.Logic.{⊎_elim}
use Rattle.std.proofs.Math.Path.{sym, ap}
use Rattle.std.proofs.Common.{◌∙◌, subst, arith, eqb-true, lt-ltb, le-ltb}
use Rattle.std.proofs.lemmas.Bool.{eqb-false}
use Rattle.common.specs.Facts.{lt_or_ge, bool, clash, or_left, or_right, same_bool}
use Rattle.window.specs.Sliding.{Weak, slid_inv, put_weak, updated, updated_at, updated_off}
use Rattle.window.specs.Alike.{weak_alike, inv_only}
use Rattle.sender.specs.declared.NumberPlace.{NumberPlace}
use Rattle.sender.specs.declared.BlockPlace.{BlockPlace}
use Rattle.sender.specs.declared.Sender.{Sender}
use Rattle.sender.specs.Record.{is_pending, number_passes, block_passes, no_number, no_block, remembering, numbers_of, blocks_of, number_at, block_at}
use Rattle.sender.specs.Turn.{Turn, in_state, block_in_state, turned_at, turn_one, turn_up_to, numbers_moved, blocks_moved, turned_of}
use Rattle.sender.specs.Facts.{Facts, number_shape, block_shape}
use Rattle.sender.specs.TurnedWants.{Ending, turn_unchosen, turn_chosen, turn_pending, pending_stands, flying_stands, block_unchosen, block_chosen_lem, block_chosen, chosen_at, chosen_from, not_chosen, want_number, want_block, want_number_lem, want_number_off, want_block_lem, want_block_off, number_by, block_by, Agree, number_alike, block_alike}

-- each place from the lows on holds what it should; all else is as it was, but for the peer's LogWindowSize, of which nothing is said
pub record Turning (w cap : ℕ) (t : Turn) (s : Sender) (chosen : ℕ → Bool) (q : Sender) : Type 0 where
  pub firstdata : q.firstdata.0 ≡ s.firstdata.0
  pub firstchannel : q.firstchannel.0 ≡ s.firstchannel.0
  pub timeout : q.timeout ≡ s.timeout
  pub next : q.next.0 ≡ s.next.0
  pub channelnext : q.channelnext.0 ≡ s.channelnext.0
  pub numbers : Weak no_number w cap number_passes s.low.0 (want_number w t s chosen) (numbers_of q)
  pub blocks : Weak no_block w cap block_passes s.channellow.0 (want_block w t s chosen) (blocks_of q)

-- and both lows stand
pub record Turned (w cap : ℕ) (t : Turn) (s : Sender) (chosen : ℕ → Bool) (q : Sender) : Type 0 where
  pub turning : Turning w cap t s chosen q
  pub low_stands : number_passes (want_number w t s chosen q.low.0) ≡ false
  pub channel_stands : block_passes (want_block w t s chosen q.channellow.0) ≡ false

-- Another LogWindowSize, and the same has turned.
pub turned_remembering : {w cap : ℕ} {t : Turn} {s : Sender} {chosen : ℕ → Bool} {q : Sender} (k : ℕ)
    → Turned w cap t s chosen q → Turned w cap t s chosen (remembering k q)
turned_remembering k a =
    let b = a.turning in
    record {
      turning = record {
        firstdata = b.firstdata;
        firstchannel = b.firstchannel;
        timeout = b.timeout;
        next = b.next;
        channelnext = b.channelnext;
        numbers = b.numbers;
        blocks = b.blocks;
      };
      low_stands = a.low_stands;
      channel_stands = a.channel_stands;
    }

-- chosen by the one or by the other; nothing chosen
abbrev pub either_of : (ℕ → Bool) → (ℕ → Bool) → ℕ → Bool
either_of f g n = f n || g n

abbrev pub nothing : ℕ → Bool
nothing n = false

-- The places alone change while numbers turn.
one_low : (w : ℕ) (t : Turn) (g : ℕ → Bool) (q : Sender) (m : ℕ) → ((turn_one w t g q m).low.0 ≡ q.low.0)
unfolding turn_one
one_low w t g q m = go (cond (is_pending (number_at w q m)) (g m) false)
  where
    go : (x : Bool) → (cond x (turned_at w t q m) q).low.0 ≡ q.low.0
    go true = refl
    go false = refl

pub low_kept : (w : ℕ) (t : Turn) (g : ℕ → Bool) (q : Sender) (i : ℕ) → (turn_up_to w t g q i).low.0 ≡ q.low.0
unfolding turn_up_to
low_kept w t g q zero = refl
low_kept w t g q (suc i) = one_low w t g (turn_up_to w t g q i) (q.low.0 + i) ∙ low_kept w t g q i

-- chosen before, or chosen now and below b
abbrev pub up_to : (ℕ → Bool) → (ℕ → Bool) → ℕ → ℕ → Bool
up_to chosen g b n = chosen n || cond (ltb n b) (g n) false

pub both_hold : (a b : Bool) → cond a b false ≡ true → (a ≡ true) × (b ≡ true)
both_hold true b h = (refl, h)
both_hold false b h = clash false h refl

pub or_none : (a b : Bool) → b ≡ false → a ≡ (a || b)
or_none true b h = refl
or_none false b h = sym h

ltb_next : (n b i : ℕ) → (n ≡ b + i → ⊥) → ltb n (b + i) ≡ ltb n (b + suc i)
ltb_next n b i ne =
    ⊎_elim
    (λ lt. lt-ltb n (b + i) lt ∙ sym (lt-ltb n (b + suc i) (omega arith)))
    (λ ge. le-ltb n (b + i) ge ∙ sym (le-ltb n (b + suc i) (⊎_elim (λ lt. omega arith) (λ le. absurd (ne (omega arith))) (lt_or_ge (b + i) n))))
    (lt_or_ge n (b + i))

up_to_next : (x y a b : Bool) → a ≡ true → b ≡ false → (x || cond a y false) ≡ (x || cond b y false || y)
up_to_next true y a b p q = refl
up_to_next false y a b p q = ap (λ (z : Bool). cond z y false) p ∙ sym (ap (λ (z : Bool). cond z y false || y) q)

module _ {w cap : ℕ} {t : Turn} {s : Sender} (e : Ending t) (f : Facts w cap s) where
  -- Only one record with this LogWindowSize fits.
  pub turned_only : {chosen : ℕ → Bool} {q r : Sender} → Turned w cap t s chosen q → Turned w cap t s chosen r → q.logwindow ≡ r.logwindow → q ≡ r
  turned_only {chosen} {q} {r} a b k =
      let x = a.turning in
      let y = b.turning in
      let ns = inv_only (number_shape f.some f.fits) (record { weak = x.numbers; stands = a.low_stands }) (record { weak = y.numbers; stands = b.low_stands }) in
      let bs = inv_only (block_shape f.some f.fits) (record { weak = x.blocks; stands = a.channel_stands }) (record { weak = y.blocks; stands = b.channel_stands }) in
      λ i. record {
        firstdata = record { 0 = (x.firstdata ∙ sym y.firstdata) i };
        firstchannel = record { 0 = (x.firstchannel ∙ sym y.firstchannel) i };
        timeout = (x.timeout ∙ sym y.timeout) i;
        logwindow = k i;
        low = record { 0 = (ns i).base };
        next = record { 0 = (x.next ∙ sym y.next) i };
        channellow = record { 0 = (bs i).base };
        channelnext = record { 0 = (x.channelnext ∙ sym y.channelnext) i };
        numbers = (ns i).places;
        blocks = (bs i).places;
      }

  -- Only what is chosen among the pending numbers in range matters.
  turning_alike : {chosen : ℕ → Bool} {q : Sender} (also : ℕ → Bool) → Agree w s chosen also → Turning w cap t s chosen q → Turning w cap t s also q
  turning_alike {chosen} also agree a =
      record {
        firstdata = a.firstdata;
        firstchannel = a.firstchannel;
        timeout = a.timeout;
        next = a.next;
        channelnext = a.channelnext;
        numbers = weak_alike (want_number w t s also) (number_alike w t s chosen also agree) a.numbers;
        blocks = weak_alike (want_block w t s also) (λ c l. block_alike w t s chosen also agree c) a.blocks;
      }

  pub turned_alike : {chosen : ℕ → Bool} {q : Sender} (also : ℕ → Bool) → Agree w s chosen also → Turned w cap t s chosen q → Turned w cap t s also q
  turned_alike {chosen} {q} also agree a =
      record {
        turning = turning_alike also agree a.turning;
        low_stands = ap number_passes (sym (number_alike w t s chosen also agree q.low.0 a.turning.numbers.from)) ∙ a.low_stands;
        channel_stands = ap block_passes (sym (block_alike w t s chosen also agree q.channellow.0)) ∙ a.channel_stands;
      }

  -- Nothing chosen: the record itself.
  pub turned_none : Turned w cap t s nothing s
  turned_none =
      record {
        turning = record {
          firstdata = refl;
          firstchannel = refl;
          timeout = refl;
          next = refl;
          channelnext = refl;
          numbers = record {
            size = f.numbers;
            from = omega arith;
            below = λ n l u. absurd (omega arith);
            holds = λ n l u. sym (number_as n u);
            beyond = want_number_off w t s nothing;
            spare = f.spare_numbers;
          };
          blocks = record {
            size = f.blocks;
            from = omega arith;
            below = λ n l u. absurd (omega arith);
            holds = λ c l u. sym (block_as c u);
            beyond = want_block_off w t s nothing;
            spare = f.spare_blocks;
          };
        };
        low_stands = ap number_passes (number_as s.low.0 (omega (arith, f.some))) ∙ f.low_stands;
        channel_stands = ap block_passes (block_as s.channellow.0 (omega (arith, f.some))) ∙ f.channel_stands;
      }
    where
      number_as : (n : ℕ) → n < s.low.0 + w → want_number w t s nothing n ≡ number_at w s n
      number_as n u = want_number_lem w t s nothing n u ∙ turn_unchosen t false (number_at w s n) refl

      block_as : (c : ℕ) → c < s.channellow.0 + w → want_block w t s nothing c ≡ block_at w s c
      block_as c u = want_block_lem w t s nothing c u ∙ block_unchosen t _ (block_at w s c) (not_chosen w s nothing c (λ k. clash false k.told refl))

  module _ {chosen : ℕ → Bool} {q : Sender} (a : Turning w cap t s chosen q) where
    -- What is pending now was pending, and is not chosen.
    pub pending_before : (n : ℕ) → q.low.0 ≤ n → n < q.low.0 + w → is_pending (number_at w q n) ≡ true
        → (n < s.low.0 + w) × (is_pending (number_at w s n) ≡ true) × (chosen n ≡ false) × (number_at w q n ≡ number_at w s n)
    pending_before n l u h =
        let k = a.numbers.holds n l u in
        ⊎_elim
        (λ lt. let m = k ∙ want_number_lem w t s chosen n lt in
        let (p, out) = turn_pending e (chosen n) (number_at w s n) (ap (λ (z : NumberPlace). is_pending z) (sym m) ∙ h) in
        (lt, p, out, m ∙ turn_unchosen t (chosen n) (number_at w s n) out))
        (λ ge. clash (is_pending (number_at w q n)) h (ap (λ (z : NumberPlace). is_pending z) (k ∙ want_number_off w t s chosen n ge)))
        (lt_or_ge n (s.low.0 + w))

    -- What was pending and is not chosen is still there.
    pub pending_after : (n : ℕ) → s.low.0 ≤ n → n < s.low.0 + w → is_pending (number_at w s n) ≡ true → chosen n ≡ false
        → (q.low.0 ≤ n) × (number_at w q n ≡ number_at w s n)
    pending_after n l u p h =
        let k = want_number_lem w t s chosen n u ∙ turn_unchosen t (chosen n) (number_at w s n) h in
        ⊎_elim
        (λ lt. clash (number_passes (want_number w t s chosen n)) (a.numbers.below n l lt) (ap number_passes k ∙ pending_stands (number_at w s n) p))
        (λ ge. (ge, a.numbers.holds n ge (omega (arith, a.numbers.from)) ∙ k))
        (lt_or_ge n q.low.0)

    -- So is its block, in flight.
    pub block_after : (n : ℕ) → s.low.0 ≤ n → n < s.low.0 + w → is_pending (number_at w s n) ≡ true → chosen n ≡ false
        → (block_chosen w s chosen (number_at w s n).channel.0 ≡ false) × (q.channellow.0 ≤ (number_at w s n).channel.0)
        × (block_at w q (number_at w s n).channel.0 ≡ block_at w s (number_at w s n).channel.0)
    block_after n l u p h =
        let c : ℕ = (number_at w s n).channel.0 in
        let o = f.pending n l u p in
        let cu : c < s.channellow.0 + w = omega (arith, o.most, f.bounds.channelroom) in
        let x : block_chosen w s chosen c ≡ false =
        not_chosen w s chosen c (λ k.
        clash (chosen n) (subst (λ (m : ℕ). chosen m ≡ true) (f.only k.n n k.from k.below l u k.pends p k.brings) k.told) h) in
        let k = want_block_lem w t s chosen c cu ∙ block_unchosen t _ (block_at w s c) x in
        ⊎_elim
        (λ lt. clash (block_passes (want_block w t s chosen c)) (a.blocks.below c o.least lt) (ap block_passes k ∙ flying_stands (block_at w s c) o.flies))
        (λ ge. (x, ge, a.blocks.holds c ge (omega (arith, a.blocks.from)) ∙ k))
        (lt_or_ge c q.channellow.0)

  -- One number more turns.
  module _ {chosen : ℕ → Bool} {q : Sender} (a : Turning w cap t s chosen q) (g also : ℕ → Bool) (m : ℕ) (lm : q.low.0 ≤ m) (um : m < q.low.0 + w)
      (same : (n : ℕ) → (n ≡ m → ⊥) → chosen n ≡ also n) (here : also m ≡ (chosen m || g m)) where
    -- It is pending, and chosen now.
    turns : is_pending (number_at w q m) ≡ true → g m ≡ true → Turning w cap t s also (turned_at w t q m)
    turns p y =
        record {
          firstdata = a.firstdata;
          firstchannel = a.firstchannel;
          timeout = a.timeout;
          next = a.next;
          channelnext = a.channelnext;
          numbers = weak_alike (want_number w t s also) (λ n l. number_now n) (put_weak (number_shape f.some f.fits) m number a.numbers lm lt);
          blocks = weak_alike (want_block w t s also) (λ d l. block_now d)
              (put_weak (block_shape f.some f.fits) c block a.blocks (omega (arith, ch, after.1)) cu);
        }
      where
        sm : s.low.0 ≤ m
        sm = omega (arith, a.numbers.from)

        before : (m < s.low.0 + w) × (is_pending (number_at w s m) ≡ true) × (chosen m ≡ false) × (number_at w q m ≡ number_at w s m)
        before = pending_before a m lm um p

        lt : m < s.low.0 + w
        lt = before.0

        after : (block_chosen w s chosen (number_at w s m).channel.0 ≡ false) × (q.channellow.0 ≤ (number_at w s m).channel.0)
            × (block_at w q (number_at w s m).channel.0 ≡ block_at w s (number_at w s m).channel.0)
        after = block_after a m sm lt before.1 before.2

        c : ℕ
        c = (number_at w q m).channel.0

        ch : c ≡ (number_at w s m).channel.0
        ch = ap (λ (z : NumberPlace). z.channel.0) before.3

        cu : c < s.channellow.0 + w
        cu = omega (arith, ch, (f.pending m sm lt before.1).most, f.bounds.channelroom)

        now : also m ≡ true
        now = here ∙ or_right (chosen m) (g m) y

        number : NumberPlace
        number = in_state (number_at w q m) t.number

        block : BlockPlace
        block = block_in_state (block_at w q c) t.block

        number_now : (n : ℕ) → updated m number (want_number w t s chosen) n ≡ want_number w t s also n
        number_now n =
            ⊎_elim
            (λ x. let i = eqb-true n m x in
            updated_at m number (want_number w t s chosen) n i
            ∙ ap (λ (z : NumberPlace). in_state z t.number) before.3
            ∙ sym (turn_chosen t (also m) (number_at w s m) now before.1)
            ∙ sym (want_number_lem w t s also m lt)
            ∙ ap (want_number w t s also) (sym i))
            (λ x. let i = eqb-false n m x in updated_off m number (want_number w t s chosen) n i ∙ number_by w t s chosen also n (same n i))
            (bool (eqb n m))

        chosen_now : block_chosen w s also c ≡ true
        chosen_now = chosen_from w s also c (record { n = m; from = sm; below = lt; pends = before.1; told = now; brings = sym ch })

        chosen_off : (d : ℕ) → (d ≡ c → ⊥) → block_chosen w s chosen d ≡ block_chosen w s also d
        chosen_off d ne =
            same_bool _ _
            (λ h. let k = chosen_at w s chosen d h in
            let i : k.n ≡ m → ⊥ = λ z. clash (chosen m) (subst (λ (n : ℕ). chosen n ≡ true) z k.told) before.2 in
            chosen_from w s also d
            (record { n = k.n; from = k.from; below = k.below; pends = k.pends; told = sym (same k.n i) ∙ k.told; brings = k.brings }))
            (λ h. let k = chosen_at w s also d h in
            let i : k.n ≡ m → ⊥ = λ z. ne (sym k.brings ∙ ap (λ (n : ℕ). (number_at w s n).channel.0) z ∙ sym ch) in
            chosen_from w s chosen d
            (record { n = k.n; from = k.from; below = k.below; pends = k.pends; told = same k.n i ∙ k.told; brings = k.brings }))

        block_now : (d : ℕ) → updated c block (want_block w t s chosen) d ≡ want_block w t s also d
        block_now d =
            ⊎_elim
            (λ x. let i = eqb-true d c x in
            updated_at c block (want_block w t s chosen) d i
            ∙ ap (λ (z : BlockPlace). block_in_state z t.block) (subst (λ (x : ℕ). block_at w q x ≡ block_at w s x) (sym ch) after.2)
            ∙ sym (block_chosen_lem t _ (block_at w s c) chosen_now)
            ∙ sym (want_block_lem w t s also c cu)
            ∙ ap (want_block w t s also) (sym i))
            (λ x. let i = eqb-false d c x in updated_off c block (want_block w t s chosen) d i ∙ block_by w t s chosen also d (chosen_off d i))
            (bool (eqb d c))

    -- It does not turn.
    rests : cond (is_pending (number_at w q m)) (g m) false ≡ false → Turning w cap t s also q
    rests h = turning_alike also agree a
      where
        at_m : s.low.0 ≤ m → m < s.low.0 + w → is_pending (number_at w s m) ≡ true → chosen m ≡ also m
        at_m l u p =
            ⊎_elim
            (λ x. x ∙ sym (here ∙ or_left (chosen m) (g m) x))
            (λ x. let (ge, k) = pending_after a m l u p x in
            let y : g m ≡ false = sym (ap (λ (z : Bool). cond z (g m) false) (ap (λ (z : NumberPlace). is_pending z) k ∙ p)) ∙ h in
            x ∙ sym (here ∙ ap (λ (z : Bool). z || g m) x ∙ y))
            (bool (chosen m))

        agree : Agree w s chosen also
        agree n l u p =
            ⊎_elim
            (λ x. let i : m ≡ n = sym (eqb-true n m x) in
            subst (λ (k : ℕ). s.low.0 ≤ k → k < s.low.0 + w → is_pending (number_at w s k) ≡ true → chosen k ≡ also k) i at_m l u p)
            (λ x. same n (eqb-false n m x))
            (bool (eqb n m))

    turn_one_lem : Turning w cap t s also (turn_one w t g q m)
    unfolding turn_one
    turn_one_lem =
        ⊎_elim
        (λ (x : cond (is_pending (number_at w q m)) (g m) false ≡ true). let (p, y) = both_hold _ _ x in rw x (turns p y))
        (λ (x : cond (is_pending (number_at w q m)) (g m) false ≡ false). rw x (rests x))
        (bool (cond (is_pending (number_at w q m)) (g m) false))

  -- The numbers below b turn.
  module _ {chosen : ℕ → Bool} {q : Sender} (a : Turning w cap t s chosen q) (g : ℕ → Bool) where
    turn_up_to_lem : (i : ℕ) → i ≤ w → Turning w cap t s (up_to chosen g (q.low.0 + i)) (turn_up_to w t g q i)
    unfolding turn_up_to
    turn_up_to_lem zero l =
        turning_alike (up_to chosen g (q.low.0 + 0))
        (λ n l u p. ⊎_elim
        (λ x. x ∙ sym (or_left (chosen n) _ x))
        (λ x. let (ge, k) = pending_after a n l u p x in or_none (chosen n) _ (ap (λ (z : Bool). cond z (g n) false) (le-ltb n (q.low.0 + 0) (omega arith))))
        (bool (chosen n)))
        a
    turn_up_to_lem (suc i) l =
        let k = low_kept w t g q i in
        turn_one_lem (turn_up_to_lem i (omega arith)) g (up_to chosen g (q.low.0 + suc i)) (q.low.0 + i) (omega arith) (omega arith)
        (λ n ne. ap (λ (z : Bool). chosen n || cond z (g n) false) (ltb_next n q.low.0 i ne))
        (up_to_next (chosen (q.low.0 + i)) (g (q.low.0 + i)) _ _ (lt-ltb (q.low.0 + i) (q.low.0 + suc i) (omega arith)) (le-ltb (q.low.0 + i) (q.low.0 + i) (omega arith)))

    pub turn_all : Turning w cap t s (either_of chosen g) (turn_up_to w t g q w)
    turn_all =
        turning_alike (either_of chosen g)
        (λ n l u p. ap (λ (z : Bool). chosen n || cond z (g n) false) (lt-ltb n (q.low.0 + w) (omega (arith, a.numbers.from))))
        (turn_up_to_lem w (omega arith))

    -- Turning turns what is chosen besides, and both lows move on.
    pub turned_again : Turned w cap t s (either_of chosen g) (turned_of w t g q)
    unfolding turned_of numbers_moved blocks_moved
    turned_again =
        let b = turn_all in
        let ns = slid_inv (number_shape f.some f.fits) b.numbers in
        let bs = slid_inv (block_shape f.some f.fits) b.blocks in
        record {
          turning = record {
            firstdata = b.firstdata;
            firstchannel = b.firstchannel;
            timeout = b.timeout;
            next = b.next;
            channelnext = b.channelnext;
            numbers = ns.weak;
            blocks = bs.weak;
          };
          low_stands = ns.stands;
          channel_stands = bs.stands;
        }

  pub turned_is : (g : ℕ → Bool) → Turned w cap t s g (turned_of w t g s)
  turned_is g = turned_again turned_none.turning g
