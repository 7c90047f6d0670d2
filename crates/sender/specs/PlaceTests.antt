-- What the tests of one place come to, by where its number stands and what its state is.
use Rattle.std.specs.Prelude.{ℕ, ◌+◌, ◌-◌, ◌≤◌, ◌<◌, true, false, ◌≡◌}
use Rattle.std.proofs.Math.Bool.{Bool}
use mathlib.Core.List.{List, [], ◌∷◌}
use Rattle.std.proofs.Math.Path.{refl, subst}
use Rattle.std.proofs.Common.{ap}
use native.Mathlib.Omega.{arith}
use Rattle.std.proofs.Math.Dec.{eqb}
use borrow.Author.Tests.{eqb-true, le-leb, lt-leb, eq-eqb}
use Rattle.common.specs.Every.{every}
use Rattle.common.specs.EveryLaws.{all_every, every_at}
use Rattle.sender.specs.declared.NumberPlace.{NumberPlace}
use Rattle.sender.specs.declared.BlockPlace.{BlockPlace}
use Rattle.sender.specs.declared.Sender.{Sender}
use Rattle.sender.specs.Record.{is_pending, no_number, no_block, number_at}
use Rattle.sender.specs.Consistent.{zero_number, zero_block, pending_tests, done_tests, number_fits, carries, block_tests, block_fits}

-- A zero place is the blank one.
pub zero_number_lem : (p : NumberPlace) → zero_number p ≡ true → p ≡ no_number
unfolding zero_number
zero_number_lem p h =
    let ts : List Bool = eqb p.state 0 ∷ eqb p.channel.0 0 ∷ eqb p.tick 0 ∷ [] in
    let k = eqb-true p.state 0 (every_at ts h 0) in
    let l = eqb-true p.channel.0 0 (every_at ts h 1) in
    let m = eqb-true p.tick 0 (every_at ts h 2) in
    λ i. record { state = k i; channel = record { 0 = l i }; tick = m i }

pub number_zero : (p : NumberPlace) → p ≡ no_number → zero_number p ≡ true
unfolding zero_number every
number_zero p e = ap (λ (x : NumberPlace). zero_number x) e

pub zero_block_lem : (b : BlockPlace) → zero_block b ≡ true → b ≡ no_block
unfolding zero_block
zero_block_lem b h =
    let ts : List Bool = eqb b.state 0 ∷ eqb b.length 0 ∷ eqb b.sends 0 ∷ [] in
    let k = eqb-true b.state 0 (every_at ts h 0) in
    let l = eqb-true b.length 0 (every_at ts h 1) in
    let m = eqb-true b.sends 0 (every_at ts h 2) in
    λ i. record { state = k i; sends = m i; length = l i }

pub block_zero : (b : BlockPlace) → b ≡ no_block → zero_block b ≡ true
unfolding zero_block every
block_zero b e = ap (λ (x : BlockPlace). zero_block x) e

-- The tests of a number's place, by where the number stands and what its state is.
module _ (p : NumberPlace) (fly : Bool) (n next firstchannel channellow channelnext : ℕ) where
  abbrev pub fitted : Bool
  fitted = number_fits p fly n next firstchannel channellow channelnext

  pub number_past : next ≤ n → fitted ≡ zero_number p
  unfolding number_fits
  number_past l = rw (le-leb next n l) refl

  pub number_pending : n < next → is_pending p ≡ true → fitted ≡ every (pending_tests p fly channellow channelnext)
  unfolding number_fits
  number_pending l t = rw (lt-leb next n l, t) refl

  pub number_done : n < next → is_pending p ≡ false → fitted ≡ every (done_tests p firstchannel channelnext)
  unfolding number_fits
  number_done l t = rw (lt-leb next n l, t) refl

pub block_past : (b : BlockPlace) (single : Bool) (c channelnext : ℕ) → channelnext ≤ c → block_fits b single c channelnext ≡ zero_block b
unfolding block_fits
block_past b single c channelnext l = rw (le-leb channelnext c l) refl

pub block_held : (b : BlockPlace) (single : Bool) (c channelnext : ℕ) → c < channelnext → block_fits b single c channelnext ≡ every (block_tests b single)
unfolding block_fits
block_held b single c channelnext l = rw (lt-leb channelnext c l) refl

module _ (w : ℕ) (s : Sender) where
  pub carried : (n c : ℕ) → s.low.0 ≤ n → is_pending (number_at w s n) ≡ true → (number_at w s n).channel.0 ≡ c → carries w s c (n - s.low.0) ≡ true
  unfolding carries
  carried n c l t e =
      subst (λ (m : ℕ). every (is_pending (number_at w s m) ∷ eqb (number_at w s m).channel.0 c ∷ []) ≡ true) (let q : n ≡ s.low.0 + (n - s.low.0) = omega arith in q)
      (all_every _ (t, (eq-eqb _ _ e, tt)))

  pub carrying : (c i : ℕ) → carries w s c i ≡ true → (is_pending (number_at w s (s.low.0 + i)) ≡ true) × ((number_at w s (s.low.0 + i)).channel.0 ≡ c)
  unfolding carries
  carrying c i h =
      let ts : List Bool = is_pending (number_at w s (s.low.0 + i)) ∷ eqb (number_at w s (s.low.0 + i)).channel.0 c ∷ [] in
      (every_at ts h 0, eqb-true (number_at w s (s.low.0 + i)).channel.0 c (every_at ts h 1))
