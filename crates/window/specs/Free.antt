-- The first number that did not come.
use Rattle.std.specs.Prelude.{ℕ, zero, suc, ◌+◌, ◌≤◌, ◌<◌, Bool, true, false, cond, ◌≡◌, refl}
use Rattle.std.proofs.Common.{⊎_elim, sym, ◌∙◌, ap, arith}
use Rattle.common.specs.Facts.{lt_or_ge}

-- has says which numbers came; k numbers from n on are looked at
unfoldable pub free : (ℕ → Bool) → ℕ → ℕ → ℕ
free has zero n = n
free has (suc k) n = cond (has n) (free has k (n + 1)) n

-- It is told by this: all from n up to it came, and it did not.
pub free_is : (has : ℕ → Bool) (k n x : ℕ) → n ≤ x → x ≤ n + k → ((m : ℕ) → n ≤ m → m < x → has m ≡ true) → has x ≡ false → free has k n ≡ x
unfolding free
free_is has zero n x l u b s = omega arith
free_is has (suc k) n x l u b s =
    ⊎_elim
    (λ lt. rw (b n (omega arith) lt) (free_is has k (n + 1) x (omega arith) (omega arith) (λ m p q. b m (omega arith) q) s))
    (λ ge. let e : x ≡ n = omega arith in rw (ap has (sym e) ∙ s) (sym e))
    (lt_or_ge n x)

pub free_all : (has : ℕ → Bool) (k n m : ℕ) → n ≤ m → m < free has k n → has m ≡ true
unfolding free
free_all has zero n m l u = absurd (omega arith)
free_all has (suc k) n m l u = go (has n) refl u (λ x v. free_all has k (n + 1) m x v)
  where
    go : (b : Bool) → has n ≡ b → m < cond b (free has k (n + 1)) n
        → (n + 1 ≤ m → m < free has k (n + 1) → has m ≡ true) → has m ≡ true
    go true e v rec = ⊎_elim (λ lt. rec (omega arith) v) (λ ge. ap has (let q : m ≡ n = omega arith in q) ∙ e) (lt_or_ge n m)
    go false e v rec = absurd (omega arith)

pub free_stops : (has : ℕ → Bool) (k n : ℕ) → has (n + k) ≡ false → has (free has k n) ≡ false
unfolding free
free_stops has zero n h = ap has (let q : n ≡ n + 0 = omega arith in q) ∙ h
free_stops has (suc k) n h =
    go (has n) refl (free_stops has k (n + 1) (ap has (let q : n + 1 + k ≡ n + suc k = omega arith in q) ∙ h))
  where
    go : (b : Bool) → has n ≡ b → has (free has k (n + 1)) ≡ false → has (cond b (free has k (n + 1)) n) ≡ false
    go true e rec = rec
    go false e rec = e
