-- "The answer is how many became lost": the sweep's count is that of the numbers in range that were pending and turned lost.
use Rattle.std.specs.Prelude.{ℕ, ◌+◌, ◌-◌, ◌≤◌, ◌<◌, Bool, true, false, [], ◌∷◌, ◌≡◌, eqb, ltb}
use Rattle.std.proofs.Math.Bool.{cond}
use Rattle.std.proofs.Common.{⊎_elim, ◌∙◌, subst, arith, eqb-true}
use Rattle.std.proofs.Math.Path.{refl, sym, ap}
use Rattle.common.specs.Every.{every, count_below}
use Rattle.common.specs.CountLaws.{count_same, count_short}
use Rattle.common.specs.Facts.{bool}
use Rattle.common.specs.Order.{first}
use Rattle.sender.specs.declared.NumberPlace.{NumberPlace}
use Rattle.sender.specs.declared.Sender.{Sender}
use Rattle.sender.specs.Record.{lost, pending, is_pending, is_lost, number_at}
use Rattle.sender.specs.Consistent.{consistent_of}
use Rattle.sender.specs.Turn.{turn_up_to, turned_of}
use Rattle.sender.specs.Sweep.{losing, loses_at, becomes_lost, sweep_answer, sweep_of, sweep_count}
use Rattle.sender.specs.Facts.{Facts, consistent_facts}
use Rattle.sender.specs.TurnedWants.{losing_ends, turn_number, turn_chosen, turn_unchosen, want_number_lem}
use Rattle.sender.specs.Turned.{turned_none, turned_is, turn_all, low_kept}
use Rattle.sender.specs.TurnedFacts.{turned_exactly}

-- the i-th number from s's low on is pending in s, and lost in q
unfoldable pub turns_lost : ℕ → Sender → Sender → ℕ → Bool
turns_lost w s q i = every (is_pending (number_at w s (s.low.0 + i)) ∷ is_lost (number_at w q (s.low.0 + i)) ∷ [])

-- the same where q's low has moved on: it has passed the number, or the number's place says lost
unfoldable pub goes_lost : ℕ → Sender → Sender → ℕ → Bool
goes_lost w s q i =
    every (is_pending (number_at w s (s.low.0 + i)) ∷ cond (ltb (s.low.0 + i) q.low.0) true (is_lost (number_at w q (s.low.0 + i))) ∷ [])

-- THE THEOREM, of the record in which the numbers have turned, and of the record that the sweep leaves. Both are proved below.
abbrev pub CountsTheLost : ℕ → ℕ → Sender → ℕ → Type 0
CountsTheLost w cap s tick =
    (sweep_count w cap s tick ≡ count_below (turns_lost w s (turn_up_to w losing (loses_at w s tick) s w)) (s.next.0 - s.low.0))
    × (sweep_count w cap s tick ≡ count_below (goes_lost w s (sweep_of w cap s tick)) (s.next.0 - s.low.0))

-- Two tests of which the second matters only where the first passes.
second : (a b c : Bool) → (a ≡ true → b ≡ c) → every (a ∷ b ∷ []) ≡ every (a ∷ c ∷ [])
unfolding every
second true b c h = ap (λ (x : Bool). cond x true false) (h refl)
second false b c h = refl

first_fails : (a b : Bool) → a ≡ false → every (a ∷ b ∷ []) ≡ false
unfolding every
first_fails a b h = rw h refl

-- A pending place is lost exactly if it was chosen.
lost_if : (b : Bool) (p : NumberPlace) → is_pending p ≡ true → b ≡ is_lost (turn_number losing b p)
lost_if b p h =
    ⊎_elim
    (λ x. x ∙ sym (ap (λ (z : NumberPlace). is_lost z) (turn_chosen losing b p x h)))
    (λ x. x ∙ sym (ap (λ (z : NumberPlace). is_lost z) (turn_unchosen losing b p x) ∙ ap (λ (k : ℕ). eqb k lost) (eqb-true p.state pending h)))
    (bool b)

module _ (w cap : ℕ) (s : Sender) (tick : ℕ) (f : Facts w cap s) (h : consistent_of w cap s ≡ true) where
  answers : sweep_answer w cap s ≡ 0
  unfolding sweep_answer first
  answers = rw h refl

  sweeps : sweep_of w cap s tick ≡ turned_of w losing (loses_at w s tick) s
  unfolding sweep_of
  sweeps = rw answers refl

  -- Only numbers below next count.
  counts : sweep_count w cap s tick ≡ count_below (becomes_lost w s tick) (s.next.0 - s.low.0)
  unfolding sweep_count becomes_lost
  counts =
      ap (λ (x : ℕ). cond (eqb x 0) (count_below (becomes_lost w s tick) w) 0) answers
      ∙ count_short (becomes_lost w s tick) (s.next.0 - s.low.0) w (omega (arith, f.bounds.room))
      (λ i l u. first_fails _ _ (ap (λ (z : NumberPlace). is_pending z) (f.unused (s.low.0 + i) (omega arith) (omega arith))))

  turned_at_lem : (n : ℕ) → s.low.0 ≤ n → n < s.low.0 + w
      → number_at w (turn_up_to w losing (loses_at w s tick) s w) n ≡ turn_number losing (loses_at w s tick n) (number_at w s n)
  turned_at_lem n l u =
      let k = low_kept w losing (loses_at w s tick) s w in
      (turn_all losing_ends f (turned_none losing_ends f).turning (loses_at w s tick)).numbers.holds n (omega (arith, k)) (omega (arith, k))
      ∙ want_number_lem w losing s (loses_at w s tick) n u

  left_at : (n : ℕ) → s.low.0 ≤ n → n < s.next.0 → is_pending (number_at w s n) ≡ true
      → loses_at w s tick n ≡ cond (ltb n (sweep_of w cap s tick).low.0) true (is_lost (number_at w (sweep_of w cap s tick) n))
  left_at n l u p =
      subst (λ (q : Sender). loses_at w s tick n ≡ cond (ltb n q.low.0) true (is_lost (number_at w q n))) (sym sweeps)
      (sym (turned_exactly losing_ends f (turned_is losing_ends f (loses_at w s tick)) n l u p))

  counts_the_lost : CountsTheLost w cap s tick
  unfolding turns_lost goes_lost becomes_lost
  counts_the_lost = (
    counts
        ∙ count_same (becomes_lost w s tick) (turns_lost w s (turn_up_to w losing (loses_at w s tick) s w)) (s.next.0 - s.low.0)
        (λ i l. second _ _ _ (λ p.
        lost_if (loses_at w s tick (s.low.0 + i)) (number_at w s (s.low.0 + i)) p
        ∙ sym (ap (λ (z : NumberPlace). is_lost z) (turned_at_lem (s.low.0 + i) (omega arith) (omega (arith, f.bounds.room)))))),
    counts
        ∙ count_same (becomes_lost w s tick) (goes_lost w s (sweep_of w cap s tick)) (s.next.0 - s.low.0)
        (λ i l. second _ _ _ (λ p. left_at (s.low.0 + i) (omega arith) (omega arith) p)),
  )

pub lost_are_counted : (w cap : ℕ) (s : Sender) (tick : ℕ) → 0 < w → w ≤ cap → consistent_of w cap s ≡ true → CountsTheLost w cap s tick
lost_are_counted w cap s tick lw uw h = counts_the_lost w cap s tick (consistent_facts w cap s lw uw h) h
