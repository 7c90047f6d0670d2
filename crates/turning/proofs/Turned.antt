-- Turning, number by number, and both lows moving on: a law for each step of the code.
use Prim.Native.Nat.{ℕ, zero, suc, ◌+◌, ◌-◌, ◌%◌, ◌≤◌, ◌<◌}
use mathlib.Core.Bool.{Bool, true, false, cond}
use mathlib.Core.List.{List}
use mathlib.Core.Logic.{⊎_elim}
use mathlib.Core.Path.{◌≡◌, refl, sym, ◌∙◌, ap}
use native.Mathlib.Omega.{arith}
use Rattle.common.specs.Facts.{bool, cond_none}
use borrow.Author.Tests.{le-ltb}
use lib.ListN.{get_or, set}
use lib.Seq.{get_or-set_other}
use Rattle.window.specs.Places.{place_same}
use Rattle.window.specs.Window.{slid}
use Rattle.sender.specs.declared.Sender.{Sender}
use Rattle.sender.specs.Record.{is_pending, is_acknowledged, number_passes, no_number, no_block, number_at, block_at}
use Rattle.turning.specs.Chosen.{chosen_by}
use Rattle.turning.specs.Turnable.{Turnable}
use Rattle.sender.specs.Turn.{Turn, turned_at, turn_one, turn_up_to, with_numbers, with_blocks, numbers_moved, blocks_moved, turned_of}

-- both lows stay where they are
pub record Lows (s q : Sender) : Type 0 where
  pub low : q.low.0 ≡ s.low.0
  pub channellow : q.channellow.0 ≡ s.channellow.0

module _ (w : ℕ) where
  -- the first i numbers from low on
  pub turn_none : (t : Turn) (chosen : ℕ → Bool) (s : Sender) (i : ℕ) → i ≡ 0 → s ≡ turn_up_to w t chosen s i
  unfolding turn_up_to
  turn_none t chosen s i e = sym (ap (turn_up_to w t chosen s) e)

  abbrev turning : (ℕ → Bool) → Sender → ℕ → Bool
  turning chosen q n = cond (is_pending (number_at w q n)) (chosen n) false

  -- number n, the i-th from low on, has its turn
  turn_here : (t : Turn) (chosen : ℕ → Bool) (s q : Sender) (i j n : ℕ) → n ≡ s.low.0 + i → j ≡ suc i → q ≡ turn_up_to w t chosen s i → turn_one w t chosen q n ≡ turn_up_to w t chosen s j
  unfolding turn_up_to
  turn_here t chosen s q i j n e f h =
      ap (turn_one w t chosen q) e ∙ ap (λ (x : Sender). turn_one w t chosen x (s.low.0 + i)) h ∙ ap (turn_up_to w t chosen s) (sym f)

  turn_past : (t : Turn) (chosen : ℕ → Bool) (s q : Sender) (i j n : ℕ) → n ≡ s.low.0 + i → j ≡ suc i → q ≡ turn_up_to w t chosen s i → turning chosen q n ≡ false
      → q ≡ turn_up_to w t chosen s j
  unfolding turn_one
  turn_past t chosen s q i j n e f h z = ap (λ (b : Bool). cond b (turned_at w t q n) q) (sym z) ∙ turn_here t chosen s q i j n e f h

  pub turn_step : (t : Turn) (chosen : ℕ → Bool) (s q : Sender) (n : ℕ) → s.low.0 ≤ n → q ≡ turn_up_to w t chosen s (n - s.low.0) → turning chosen q n ≡ true
      → turned_at w t q n ≡ turn_up_to w t chosen s (n + 1 - s.low.0)
  unfolding turn_one
  turn_step t chosen s q n l h z =
      ap (λ (b : Bool). cond b (turned_at w t q n) q) (sym z) ∙ turn_here t chosen s q (n - s.low.0) (n + 1 - s.low.0) n (omega arith) (omega arith) h

  pub turn_skip : (t : Turn) (chosen : ℕ → Bool) (s q : Sender) (n : ℕ) → s.low.0 ≤ n → q ≡ turn_up_to w t chosen s (n - s.low.0) → turning chosen q n ≡ false
      → q ≡ turn_up_to w t chosen s (n + 1 - s.low.0)
  turn_skip t chosen s q n l h z = turn_past t chosen s q (n - s.low.0) (n + 1 - s.low.0) n (omega arith) (omega arith) h z

  -- The places of numbers that have not had their turn are as they were.
  later_kept : (t : Turn) (chosen : ℕ → Bool) (s : Sender) (i n : ℕ) → s.low.0 + i ≤ n → n < s.low.0 + w → number_at w (turn_up_to w t chosen s i) n ≡ number_at w s n
  unfolding turn_up_to turn_one
  later_kept t chosen s zero n l u = refl
  later_kept t chosen s (suc i) n l u = go (turning chosen q m) ∙ later_kept t chosen s i n (omega arith) u
    where
      m : ℕ
      m = s.low.0 + i

      q : Sender
      q = turn_up_to w t chosen s i

      go : (b : Bool) → number_at w (cond b (turned_at w t q m) q) n ≡ number_at w q n
      go true =
          get_or-set_other q.numbers (m % w) (n % w) _ no_number
          (λ e. absurd (omega (arith, place_same w s.low.0 n m (omega arith) u (omega arith) (omega arith) e)))
      go false = refl

  -- From next on no number turns.
  turn_rest : (t : Turn) (chosen : ℕ → Bool) (s q : Sender) (i k : ℕ) → Turnable w s → q ≡ turn_up_to w t chosen s i → s.next.0 ≤ s.low.0 + i → i + k ≤ w
      → q ≡ turn_up_to w t chosen s (i + k)
  turn_rest t chosen s q i zero h e l u = e ∙ ap (turn_up_to w t chosen s) (let z : i ≡ i + 0 = omega arith in z)
  turn_rest t chosen s q i (suc k) h e l u =
      let r = turn_rest t chosen s q i k h e l (omega arith) in
      let idle : is_pending (number_at w q (s.low.0 + (i + k))) ≡ false =
      ap (λ (x : Sender). is_pending (number_at w x (s.low.0 + (i + k)))) r
      ∙ ap is_pending (later_kept t chosen s (i + k) (s.low.0 + (i + k)) (omega arith) (omega arith))
      ∙ h.idle (s.low.0 + (i + k)) (omega arith) (omega arith) in
      turn_past t chosen s q (i + k) (i + suc k) _ refl (omega arith) r (ap (λ (b : Bool). cond b (chosen (s.low.0 + (i + k))) false) idle)

  pub turn_all : (t : Turn) (chosen : ℕ → Bool) (s q : Sender) (i : ℕ) → Turnable w s → q ≡ turn_up_to w t chosen s i → s.low.0 + i ≡ s.next.0
      → q ≡ turn_up_to w t chosen s w
  turn_all t chosen s q i h e l =
      turn_rest t chosen s q i (w - i) h e (omega arith) (omega (arith, h.room)) ∙ ap (turn_up_to w t chosen s) (let z : i + (w - i) ≡ w = omega (arith, h.room) in z)

  -- Both lows stay meanwhile.
  one_lows : (t : Turn) (chosen : ℕ → Bool) (s q : Sender) (n : ℕ) → Lows s q → Lows s (turn_one w t chosen q n)
  unfolding turn_one
  one_lows t chosen s q n h =
      ⊎_elim
      (λ (e : turning chosen q n ≡ true). rw e (record { low = h.low; channellow = h.channellow }))
      (λ (e : turning chosen q n ≡ false). rw e h)
      (bool (turning chosen q n))

  turn_lows : (t : Turn) (chosen : ℕ → Bool) (s : Sender) (i : ℕ) → Lows s (turn_up_to w t chosen s i)
  unfolding turn_up_to
  turn_lows t chosen s zero = record { low = refl; channellow = refl }
  turn_lows t chosen s (suc i) = one_lows t chosen s _ (s.low.0 + i) (turn_lows t chosen s i)

  -- low moves on
  pub numbers_more : (k j : ℕ) (q : Sender) (at : ℕ) → k ≡ suc j → at ≡ q.low.0 % w → number_passes (number_at w q q.low.0) ≡ true
      → numbers_moved w j (with_numbers q (record { base = q.low.0 + 1; places = set q.numbers at no_number })) ≡ numbers_moved w k q
  unfolding numbers_moved slid
  numbers_more k j q at e a t = rw (e, a, t) refl

  numbers_stop : (k : ℕ) (q : Sender) → number_passes (number_at w q q.low.0) ≡ false → q ≡ numbers_moved w k q
  unfolding numbers_moved slid
  numbers_stop zero q t = refl
  numbers_stop (suc k) q t = rw t refl

  numbers_end : (k : ℕ) (q : Sender) → k ≡ 0 → q ≡ numbers_moved w k q
  unfolding numbers_moved slid
  numbers_end k q e = rw e refl

  numbers_channellow : (k : ℕ) (q : Sender) → (numbers_moved w k q).channellow.0 ≡ q.channellow.0
  unfolding numbers_moved
  numbers_channellow k q = refl

  -- channel low moves on
  pub blocks_more : (k j : ℕ) (q : Sender) (at : ℕ) → k ≡ suc j → at ≡ q.channellow.0 % w → is_acknowledged (block_at w q q.channellow.0) ≡ true
      → blocks_moved w j (with_blocks q (record { base = q.channellow.0 + 1; places = set q.blocks at no_block })) ≡ blocks_moved w k q
  unfolding blocks_moved slid
  blocks_more k j q at e a t = rw (e, a, t) refl

  pub blocks_stop : (k : ℕ) (q : Sender) → is_acknowledged (block_at w q q.channellow.0) ≡ false → q ≡ blocks_moved w k q
  unfolding blocks_moved slid
  blocks_stop zero q t = refl
  blocks_stop (suc k) q t = rw t refl

  pub blocks_end : (k : ℕ) (q : Sender) → k ≡ 0 → q ≡ blocks_moved w k q
  unfolding blocks_moved slid
  blocks_end k q e = rw e refl

  -- the whole, from its three parts
  pub turned_whole : (t : Turn) (chosen : ℕ → Bool) (s a b r : Sender) (i : ℕ) → i ≡ w → a ≡ turn_up_to w t chosen s i → b ≡ numbers_moved w w a → r ≡ blocks_moved w w b
      → r ≡ turned_of w t chosen s
  unfolding turned_of
  turned_whole t chosen s a b r i e x y z = z ∙ ap (blocks_moved w w) (y ∙ ap (numbers_moved w w) (x ∙ ap (turn_up_to w t chosen s) e))

  -- where a low's moves end: at a place that it does not pass, or after the whole window
  pub numbers_stopped : (a q : Sender) (k : ℕ) (r : Bool) → numbers_moved w (w - k) q ≡ numbers_moved w w a → r ≡ number_passes (number_at w q q.low.0) → r ≡ false
      → q ≡ numbers_moved w w a
  numbers_stopped a q k r h e t = numbers_stop (w - k) q (sym e ∙ t) ∙ h

  pub numbers_ended : (a q : Sender) (k : ℕ) → numbers_moved w (w - k) q ≡ numbers_moved w w a → w ≤ k → q ≡ numbers_moved w w a
  numbers_ended a q k h l = numbers_end (w - k) q (omega arith) ∙ h

  pub moved_channellow : (t : Turn) (chosen : ℕ → Bool) (s a b : Sender) (i : ℕ) → a ≡ turn_up_to w t chosen s i → b ≡ numbers_moved w w a → b.channellow.0 ≡ s.channellow.0
  moved_channellow t chosen s a b i x y =
      ap (λ (z : Sender). z.channellow.0) y ∙ numbers_channellow w a ∙ ap (λ (z : Sender). z.channellow.0) x ∙ (turn_lows t chosen s i).channellow

  pub turned_low : (t : Turn) (chosen : ℕ → Bool) (s a : Sender) (i : ℕ) → a ≡ turn_up_to w t chosen s i → a.low.0 ≡ s.low.0
  turned_low t chosen s a i x = ap (λ (z : Sender). z.low.0) x ∙ (turn_lows t chosen s i).low

  -- Only which numbers from low to low + 31 are chosen matters.
  up_to_ext : (t : Turn) (f g : ℕ → Bool) (s : Sender) (i : ℕ) → i ≤ w → ((n : ℕ) → s.low.0 ≤ n → n < s.low.0 + w → f n ≡ g n) → turn_up_to w t f s i ≡ turn_up_to w t g s i
  unfolding turn_up_to turn_one
  up_to_ext t f g s zero l h = refl
  up_to_ext t f g s (suc i) l h =
      ap (λ (x : Sender). turn_one w t f x (s.low.0 + i)) (up_to_ext t f g s i (omega arith) h)
      ∙ ap (λ (b : Bool). cond (cond (is_pending (number_at w (turn_up_to w t g s i) (s.low.0 + i))) b false) (turned_at w t (turn_up_to w t g s i) (s.low.0 + i)) (turn_up_to w t g s i))
      (h (s.low.0 + i) (omega arith) (omega arith))

  pub turned_ext : (t : Turn) (f g : ℕ → Bool) (s : Sender) → ((n : ℕ) → s.low.0 ≤ n → n < s.low.0 + w → f n ≡ g n) → turned_of w t f s ≡ turned_of w t g s
  unfolding turned_of
  turned_ext t f g s h = ap (λ (x : Sender). blocks_moved w w (numbers_moved w w x)) (up_to_ext t f g s w (omega arith) h)

  -- Where nothing is chosen and both lows stand, nothing changes.
  up_to_same : (t : Turn) (f : ℕ → Bool) (s : Sender) (i : ℕ) → ((n : ℕ) → f n ≡ false) → s ≡ turn_up_to w t f s i
  up_to_same t f s zero h = turn_none t f s 0 refl
  up_to_same t f s (suc i) h =
      turn_past t f s s i (suc i) _ refl refl (up_to_same t f s i h) (ap (λ (b : Bool). cond (is_pending (number_at w s (s.low.0 + i))) b false) (h (s.low.0 + i)) ∙ sym (cond_none (is_pending (number_at w s (s.low.0 + i)))))

  pub turned_nothing : (t : Turn) (f : ℕ → Bool) (s : Sender) → ((n : ℕ) → f n ≡ false) → number_passes (number_at w s s.low.0) ≡ false
      → is_acknowledged (block_at w s s.channellow.0) ≡ false → s ≡ turned_of w t f s
  turned_nothing t f s h a b = turned_whole t f s s s s w refl (up_to_same t f s w h) (numbers_stop w s a) (blocks_stop w s b)

  -- With no number below which all turn, the flags decide.
  pub chosen_flag : (flags : List Bool) (n : ℕ) → chosen_by w flags 0 n ≡ get_or flags (n % w) false
  unfolding chosen_by
  chosen_flag flags n = ap (λ (b : Bool). cond (get_or flags (n % w) false) true b) (le-ltb n 0 (omega arith)) ∙ go (get_or flags (n % w) false)
    where
      go : (b : Bool) → cond b true false ≡ b
      go true = refl
      go false = refl
