-- An answer 0 taken apart: every test of its list fails.
use Rattle.std.specs.Prelude.{ℕ, ◌<◌, Bool, true, false, cond, List, [], ◌∷◌, ◌≡◌, refl}
use Rattle.std.proofs.Common.{arith}
use Rattle.common.specs.Order.{Test, first}
use Rattle.wire.specs.Flags.{both, either}

abbrev pub Passed : List Test → Type 0
Passed [] = Unit {0}
Passed (t ∷ ts) = (t.holds ≡ false) × Passed ts

-- No test refuses by 0.
abbrev pub Numbered : List Test → Type 0
Numbered [] = Unit {0}
Numbered (t ∷ ts) = (0 < t.no) × Numbered ts

pub all_pass : (ts : List Test) → Numbered ts → 0 ≡ first ts → Passed ts
unfolding first
all_pass [] n e = tt
all_pass (t ∷ ts) n e = go (all_pass ts n.1) t.holds refl e
  where
    go : (0 ≡ first ts → Passed ts) → (b : Bool) → t.holds ≡ b → 0 ≡ cond b t.no (first ts) → Passed (t ∷ ts)
    go others true h z = absurd (omega arith)
    go others false h z = (h, others z)

-- Tests of two conditions.
pub neither : (a b : Bool) → either a b ≡ false → (a ≡ false) × (b ≡ false)
neither true b e = absurd (let z : ◌≡◌ {A = ℕ} 0 1 = cc in omega arith)
neither false b e = (refl, e)

pub neither_of : (a b : Bool) → a ≡ false → b ≡ false → either a b ≡ false
neither_of a b e h = rw (e, h) refl

pub not_both : (a b : Bool) → both a b ≡ false → a ≡ true → b ≡ false
not_both true b e h = e
not_both false b e h = absurd (let z : ◌≡◌ {A = ℕ} 0 1 = cc in omega arith)
