-- Widening answers the one whole number that is asked for, and unclear exactly where there is none: half a lap away.
use Rattle.std.specs.Prelude.{◌≡◌, ℕ, ◌+◌, ◌-◌, ◌%◌, ◌<◌, ◌≤◌, Bool, true, false, cond, nat_le, refl}
use Rattle.std.proofs.Common.{ap, arith, leb-true, leb-false, eqb-true, eq-eqb}
use Rattle.std.proofs.lemmas.Bool.{eqb-false}
use Rattle.numbers.specs.declared.Widened.{Widened}
use Rattle.numbers.specs.declared.Widened.TheVariants.{At, Below, Unclear}
use Rattle.numbers.specs.Widen.{half_away, back_of, widen_of}

-- the whole number n lies from r − 32,767 to r + 32,767 and is congruent to f modulo 65,536
abbrev pub NearAt : ℕ → ℕ → ℕ → Type 0
NearAt r f n = (r ≤ n + 32767) × (n ≤ r + 32767) × (n % 65536 ≡ f)

-- the same of −m: r + m ≤ 32,767, and f + m is a multiple of 65,536; with f and m below it that multiple is 65,536 itself
abbrev pub NearBelow : ℕ → ℕ → ℕ → Type 0
NearBelow r f m = (1 ≤ m) × (r + m ≤ 32767) × (f + m ≡ 65536)

-- an answer is right if it is such a number, or says that there is none
abbrev pub Near : ℕ → ℕ → Widened ℕ → Type 0
Near r f (At n) = NearAt r f n
Near r f (Below m) = NearBelow r f m
Near r f Unclear = ((n : ℕ) → NearAt r f n → ⊥) × ((m : ℕ) → NearBelow r f m → ⊥)

-- Every field widens to such an answer, from every reference.
pub widen_near : (r f : ℕ) → f < 65536 → Near r f (widen_of r f)
unfolding widen_of
widen_near r f h = go (half_away r f) (nat_le (back_of r f) (r + 32767)) refl refl
  where
    go : (a b : Bool) → half_away r f ≡ a → nat_le (back_of r f) (r + 32767) ≡ b
        → Near r f (cond a Unclear (cond b (At (r + 32767 - back_of r f)) (Below (back_of r f - (r + 32767)))))
    go true b s t = let e : (r + 32768) % 65536 ≡ f = eqb-true ((r + 32768) % 65536) f s in (λ n p. omega arith, λ m p. omega arith)
    go false true s t =
        let ne : (r + 32768) % 65536 ≡ f → ⊥ = eqb-false ((r + 32768) % 65536) f s in
        let le : back_of r f ≤ r + 32767 = leb-true (back_of r f) (r + 32767) t in
        (omega arith, omega arith, omega arith)
    go false false s t =
        let ne : (r + 32768) % 65536 ≡ f → ⊥ = eqb-false ((r + 32768) % 65536) f s in
        let lt : r + 32767 < back_of r f = leb-false (back_of r f) (r + 32767) t in
        (omega arith, omega arith, omega arith)

-- And to no other.
pub near_once : (r f : ℕ) (v w : Widened ℕ) → f < 65536 → Near r f v → Near r f w → v ≡ w
near_once r f (At m) (At n) h p q = ap At (omega arith)
near_once r f (At m) (Below n) h p q = absurd (omega arith)
near_once r f (At m) Unclear h p q = absurd (q.0 m p)
near_once r f (Below m) (At n) h p q = absurd (omega arith)
near_once r f (Below m) (Below n) h p q = ap Below (omega arith)
near_once r f (Below m) Unclear h p q = absurd (q.1 m p)
near_once r f Unclear (At n) h p q = absurd (p.0 n q)
near_once r f Unclear (Below n) h p q = absurd (p.1 n q)
near_once r f Unclear Unclear h p q = refl

-- So whatever is near is the answer.
pub widen_only : (r f : ℕ) (w : Widened ℕ) → f < 65536 → Near r f w → widen_of r f ≡ w
widen_only r f w h p = near_once r f (widen_of r f) w h (widen_near r f h) p

-- It is unclear exactly if the field is that of r + 32,768, which is that of r − 32,768 too.
pub half_unclear : (r f : ℕ) → (r + 32768) % 65536 ≡ f → widen_of r f ≡ Unclear
unfolding widen_of
half_unclear r f h = rw (eq-eqb ((r + 32768) % 65536) f h) refl

pub unclear_half : (r f : ℕ) → widen_of r f ≡ Unclear → (r + 32768) % 65536 ≡ f
unfolding widen_of
unclear_half r f e = go (half_away r f) (nat_le (back_of r f) (r + 32767)) refl e
  where
    go : (a b : Bool) → half_away r f ≡ a
        → cond a Unclear (cond b (At (r + 32767 - back_of r f)) (Below (back_of r f - (r + 32767)))) ≡ Unclear → (r + 32768) % 65536 ≡ f
    go true b s q = eqb-true ((r + 32768) % 65536) f s
    go false true s q = absurd (let z : ◌≡◌ {A = ℕ} 0 1 = cc in omega arith)
    go false false s q = absurd (let z : ◌≡◌ {A = ℕ} 0 1 = cc in omega arith)
