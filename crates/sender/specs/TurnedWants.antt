-- What each place should hold once the chosen numbers have turned.
use Prim.Native.Nat.{ℕ, ◌+◌, ◌-◌, ◌≤◌, ◌<◌}
use Rattle.std.specs.Prelude.{Bool, true, false, [], ◌∷◌, ◌≡◌, ltb}
use Rattle.std.proofs.Math.Bool.{cond}
use Rattle.std.proofs.Common.{⊎_elim, sym, ◌∙◌, subst, arith}
use Rattle.std.proofs.Math.Path.{refl, ap}
use Rattle.std.proofs.Math.Dec.{eqb}
use borrow.Author.Tests.{eqb-true, eq-eqb, lt-ltb, le-ltb, ltb-true}
use Rattle.common.specs.Every.{every, count_below}
use Rattle.common.specs.EveryLaws.{every_all, all_every}
use Rattle.common.specs.CountLaws.{some_at, some_from}
use Rattle.common.specs.Facts.{lt_or_ge, bool, clash, not_so, same_bool}
use Rattle.sender.specs.declared.NumberPlace.{NumberPlace}
use Rattle.sender.specs.declared.BlockPlace.{BlockPlace}
use Rattle.sender.specs.declared.Sender.{Sender}
use Rattle.sender.specs.Record.{pending, received, lost, in_flight, waiting, acknowledged, is_pending, is_in_flight, is_waiting, is_acknowledged, number_passes, block_passes, no_number, no_block, number_at, block_at}
use Rattle.sender.specs.Turn.{Turn, in_state, block_in_state}
use Rattle.sender.specs.Acknowledge.{acknowledging}
use Rattle.sender.specs.Sweep.{losing}

-- a turn that ends a number: low passes it, and its block is no longer in flight
pub record Ending (t : Turn) : Type 0 where
  pub passes : cond (eqb t.number received) true (eqb t.number lost) ≡ true
  pub ended : eqb t.number pending ≡ false
  pub rests : cond (eqb t.block waiting) true (eqb t.block acknowledged) ≡ true
  pub lands : eqb t.block in_flight ≡ false

pub acknowledging_ends : Ending acknowledging
acknowledging_ends = record { passes = refl; ended = refl; rests = refl; lands = refl }

pub losing_ends : Ending losing
losing_ends = record { passes = refl; ended = refl; rests = refl; lands = refl }

-- A number's place, by whether the number is chosen.
unfoldable pub turn_number : Turn → Bool → NumberPlace → NumberPlace
turn_number t b p = cond (cond (is_pending p) b false) (in_state p t.number) p

pub turn_not : (t : Turn) (b : Bool) (p : NumberPlace) → is_pending p ≡ false → turn_number t b p ≡ p
unfolding turn_number
turn_not t b p h = rw h refl

pub turn_unchosen : (t : Turn) (b : Bool) (p : NumberPlace) → b ≡ false → turn_number t b p ≡ p
unfolding turn_number
turn_unchosen t b p h = ⊎_elim (λ (e : is_pending p ≡ true). rw (e, h) refl) (λ (e : is_pending p ≡ false). rw e refl) (bool (is_pending p))

pub turn_chosen : (t : Turn) (b : Bool) (p : NumberPlace) → b ≡ true → is_pending p ≡ true → turn_number t b p ≡ in_state p t.number
unfolding turn_number
turn_chosen t b p h k = rw (k, h) refl

pub turn_channel : (t : Turn) (b : Bool) (p : NumberPlace) → (turn_number t b p).channel.0 ≡ p.channel.0
unfolding turn_number
turn_channel t b p = go (cond (is_pending p) b false)
  where
    go : (x : Bool) → (cond x (in_state p t.number) p).channel.0 ≡ p.channel.0
    go true = refl
    go false = refl

-- What is still pending was, and is not chosen.
pub turn_pending : {t : Turn} → Ending t → (b : Bool) (p : NumberPlace) → is_pending (turn_number t b p) ≡ true → (is_pending p ≡ true) × (b ≡ false)
turn_pending {t} e b p h =
    ⊎_elim
    (λ y. ⊎_elim
    (λ x. clash (is_pending (turn_number t b p)) h (ap (λ (z : NumberPlace). is_pending z) (turn_chosen t b p x y) ∙ e.ended))
    (λ x. (y, x))
    (bool b))
    (λ y. clash (is_pending (turn_number t b p)) h (ap (λ (z : NumberPlace). is_pending z) (turn_not t b p y) ∙ y))
    (bool (is_pending p))

-- A pending number stands, and a block in flight.
pub pending_stands : (p : NumberPlace) → is_pending p ≡ true → number_passes p ≡ false
pending_stands p h = ap (λ (k : ℕ). cond (eqb k received) true (eqb k lost)) (eqb-true p.state pending h)

pub flying_stands : (b : BlockPlace) → is_in_flight b ≡ true → block_passes b ≡ false
flying_stands b h = ap (λ (k : ℕ). eqb k acknowledged) (eqb-true b.state in_flight h)

-- A block's place, by whether its number is chosen.
unfoldable pub turn_block : Turn → Bool → BlockPlace → BlockPlace
turn_block t x b = cond x (block_in_state b t.block) b

pub block_unchosen : (t : Turn) (x : Bool) (b : BlockPlace) → x ≡ false → turn_block t x b ≡ b
unfolding turn_block
block_unchosen t x b h = rw h refl

pub block_chosen_lem : (t : Turn) (x : Bool) (b : BlockPlace) → x ≡ true → turn_block t x b ≡ block_in_state b t.block
unfolding turn_block
block_chosen_lem t x b h = rw h refl

pub block_length : (t : Turn) (x : Bool) (b : BlockPlace) → (turn_block t x b).length ≡ b.length
unfolding turn_block
block_length t true b = refl
block_length t false b = refl

pub block_sends : (t : Turn) (x : Bool) (b : BlockPlace) → (turn_block t x b).sends ≡ b.sends
unfolding turn_block
block_sends t true b = refl
block_sends t false b = refl

pub block_flies : {t : Turn} → Ending t → (x : Bool) (b : BlockPlace) → is_in_flight (turn_block t x b) ≡ true → (is_in_flight b ≡ true) × (x ≡ false)
unfolding turn_block
block_flies {t} e true b h = clash (is_in_flight (turn_block t true b)) h e.lands
block_flies e false b h = (h, refl)

abbrev pub resting : BlockPlace → Bool
resting b = cond (is_waiting b) true (is_acknowledged b)

pub block_rests : {t : Turn} → Ending t → (x : Bool) (b : BlockPlace) → (x ≡ false → resting b ≡ true) → resting (turn_block t x b) ≡ true
unfolding turn_block
block_rests e true b h = e.rests
block_rests e false b h = h refl

-- the i-th number from low on is pending, chosen and carries block c
unfoldable pub chooses : ℕ → Sender → (ℕ → Bool) → ℕ → ℕ → Bool
chooses w s chosen c i =
    every (is_pending (number_at w s (s.low.0 + i)) ∷ chosen (s.low.0 + i) ∷ eqb (number_at w s (s.low.0 + i)).channel.0 c ∷ [])

-- some chosen number carries block c
unfoldable pub block_chosen : ℕ → Sender → (ℕ → Bool) → ℕ → Bool
block_chosen w s chosen c = ltb 0 (count_below (chooses w s chosen c) w)

pub record Chosen (w : ℕ) (s : Sender) (chosen : ℕ → Bool) (c : ℕ) : Type 0 where
  pub n : ℕ
  pub from : s.low.0 ≤ n
  pub below : n < s.low.0 + w
  pub pends : is_pending (number_at w s n) ≡ true
  pub told : chosen n ≡ true
  pub brings : (number_at w s n).channel.0 ≡ c

module _ (w : ℕ) (s : Sender) (chosen : ℕ → Bool) (c : ℕ) where
  pub chosen_at : block_chosen w s chosen c ≡ true → Chosen w s chosen c
  unfolding block_chosen chooses
  chosen_at h =
      let (i, l, e) = some_at (chooses w s chosen c) w (ltb-true _ _ h) in
      let n : ℕ = s.low.0 + i in
      let k = every_all (is_pending (number_at w s n) ∷ chosen n ∷ eqb (number_at w s n).channel.0 c ∷ []) e in
      record { n = n; from = omega arith; below = omega arith; pends = k.0; told = k.1.0; brings = eqb-true _ _ k.1.1.0 }

  pub chosen_from : Chosen w s chosen c → block_chosen w s chosen c ≡ true
  unfolding block_chosen chooses
  chosen_from k =
      lt-ltb _ _
      (some_from (chooses w s chosen c) w (k.n - s.low.0) (omega (arith, k.from, k.below))
      (subst (λ (m : ℕ). every (is_pending (number_at w s m) ∷ chosen m ∷ eqb (number_at w s m).channel.0 c ∷ []) ≡ true)
      (let q : k.n ≡ s.low.0 + (k.n - s.low.0) = omega (arith, k.from) in q)
      (all_every _ (k.pends, (k.told, (eq-eqb _ _ k.brings, tt))))))

  pub not_chosen : (Chosen w s chosen c → ⊥) → block_chosen w s chosen c ≡ false
  not_chosen f = not_so _ (λ t. f (chosen_at t))

-- what the places of number n and block c should hold
unfoldable pub want_number : ℕ → Turn → Sender → (ℕ → Bool) → ℕ → NumberPlace
want_number w t s chosen n = cond (ltb n (s.low.0 + w)) (turn_number t (chosen n) (number_at w s n)) no_number

unfoldable pub want_block : ℕ → Turn → Sender → (ℕ → Bool) → ℕ → BlockPlace
want_block w t s chosen c = cond (ltb c (s.channellow.0 + w)) (turn_block t (block_chosen w s chosen c) (block_at w s c)) no_block

module _ (w : ℕ) (t : Turn) (s : Sender) (chosen : ℕ → Bool) where
  pub want_number_lem : (n : ℕ) → n < s.low.0 + w → want_number w t s chosen n ≡ turn_number t (chosen n) (number_at w s n)
  unfolding want_number
  want_number_lem n u = rw (lt-ltb n (s.low.0 + w) u) refl

  pub want_number_off : (n : ℕ) → s.low.0 + w ≤ n → want_number w t s chosen n ≡ no_number
  unfolding want_number
  want_number_off n u = rw (le-ltb n (s.low.0 + w) u) refl

  pub want_block_lem : (c : ℕ) → c < s.channellow.0 + w → want_block w t s chosen c ≡ turn_block t (block_chosen w s chosen c) (block_at w s c)
  unfolding want_block
  want_block_lem c u = rw (lt-ltb c (s.channellow.0 + w) u) refl

  pub want_block_off : (c : ℕ) → s.channellow.0 + w ≤ c → want_block w t s chosen c ≡ no_block
  unfolding want_block
  want_block_off c u = rw (le-ltb c (s.channellow.0 + w) u) refl

-- A want depends on whether its own number, or its own block, is chosen.
module _ (w : ℕ) (t : Turn) (s : Sender) (f g : ℕ → Bool) where
  pub number_by : (n : ℕ) → f n ≡ g n → want_number w t s f n ≡ want_number w t s g n
  unfolding want_number
  number_by n h = ap (λ (x : Bool). cond (ltb n (s.low.0 + w)) (turn_number t x (number_at w s n)) no_number) h

  pub block_by : (c : ℕ) → block_chosen w s f c ≡ block_chosen w s g c → want_block w t s f c ≡ want_block w t s g c
  unfolding want_block
  block_by c h = ap (λ (x : Bool). cond (ltb c (s.channellow.0 + w)) (turn_block t x (block_at w s c)) no_block) h

-- two choices that agree on the pending numbers in range
abbrev pub Agree : ℕ → Sender → (ℕ → Bool) → (ℕ → Bool) → Type 0
Agree w s f g = (n : ℕ) → s.low.0 ≤ n → n < s.low.0 + w → is_pending (number_at w s n) ≡ true → f n ≡ g n

module _ (w : ℕ) (t : Turn) (s : Sender) (f g : ℕ → Bool) (agree : Agree w s f g) where
  pub number_alike : (n : ℕ) → s.low.0 ≤ n → want_number w t s f n ≡ want_number w t s g n
  number_alike n l =
      ⊎_elim
      (λ lt. ⊎_elim
      (λ p. number_by w t s f g n (agree n l lt p))
      (λ p. want_number_lem w t s f n lt
      ∙ turn_not t (f n) (number_at w s n) p
      ∙ sym (turn_not t (g n) (number_at w s n) p)
      ∙ sym (want_number_lem w t s g n lt))
      (bool (is_pending (number_at w s n))))
      (λ ge. want_number_off w t s f n ge ∙ sym (want_number_off w t s g n ge))
      (lt_or_ge n (s.low.0 + w))

  chosen_alike : (c : ℕ) → block_chosen w s f c ≡ block_chosen w s g c
  chosen_alike c =
      same_bool _ _
      (λ h. let k = chosen_at w s f c h in
      chosen_from w s g c
      (record { n = k.n; from = k.from; below = k.below; pends = k.pends; told = sym (agree k.n k.from k.below k.pends) ∙ k.told; brings = k.brings }))
      (λ h. let k = chosen_at w s g c h in
      chosen_from w s f c
      (record { n = k.n; from = k.from; below = k.below; pends = k.pends; told = agree k.n k.from k.below k.pends ∙ k.told; brings = k.brings }))

  pub block_alike : (c : ℕ) → want_block w t s f c ≡ want_block w t s g c
  block_alike c = block_by w t s f g c (chosen_alike c)
