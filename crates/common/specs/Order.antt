-- Refusals in order: a list of tests, each with its number, of which the first that holds gives the answer.
use Rattle.std.specs.Prelude.{ℕ, ◌<◌, Bool, true, false, cond, List, [], ◌∷◌, ◌++◌, ◌≡◌, refl}
use Rattle.std.proofs.Common.{arith}

-- a condition, and the number that it refuses by
pub record Test : Type 0 where
  pub holds : Bool
  pub no : ℕ

abbrev pub test : Bool → ℕ → Test
test b n = record { holds = b; no = n }

-- the number of the first test that holds; 0 where none does
unfoldable pub first : List Test → ℕ
first [] = 0
first (t ∷ ts) = cond t.holds t.no (first ts)

-- a law for each way along the list
pub first_here : (b : Bool) (n : ℕ) (ts : List Test) → b ≡ true → n ≡ first (test b n ∷ ts)
unfolding first
first_here b n ts e = rw e refl

pub first_skip : (b : Bool) (n : ℕ) (ts : List Test) → b ≡ false → first ts ≡ first (test b n ∷ ts)
unfolding first
first_skip b n ts e = rw e refl

pub first_none : 0 ≡ first []
unfolding first
first_none = refl

-- where the answer is 0, each test fails in turn
pub first_pass : (b : Bool) (n : ℕ) (ts : List Test) → 0 < n → 0 ≡ first (test b n ∷ ts) → (b ≡ false) × (0 ≡ first ts)
unfolding first
first_pass true n ts h e = absurd (omega arith)
first_pass false n ts h e = (refl, e)

-- a refusal by the first tests of a list is the whole list's
pub first_over : (ts us : List Test) (n : ℕ) → n ≡ first ts → (n ≡ 0 → ⊥) → n ≡ first (ts ++ us)
unfolding first
first_over [] us n e h = absurd (h e)
first_over (t ∷ ts) us n e h = go t.holds t.no (λ q. first_over ts us n q h) e
  where
    go : (b : Bool) (k : ℕ) → (n ≡ first ts → n ≡ first (ts ++ us)) → n ≡ cond b k (first ts) → n ≡ cond b k (first (ts ++ us))
    go true k f q = q
    go false k f q = f q
