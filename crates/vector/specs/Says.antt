-- What the bytes of an acknowledgement vector say (document 01, "On the wire", its last point; document 000, 2.2.1.2.6).
use Rattle.std.specs.Prelude.{ℕ, zero, suc, ◌-◌, ◌%◌, ◌/◌, ◌^◌, ◌≤◌, ◌<◌, Bool, false, cond, List, [], ◌∷◌, ◌++◌, ◌≡◌, length, get_or, replicate, eqb, leb}
use Rattle.vector.specs.declared.Saying.{Saying}
use Rattle.vector.specs.declared.Saying.TheVariants.{Map, Run}

-- bit i of b, bit 0 the least significant
abbrev pub bit_of : ℕ → ℕ → Bool
bit_of b i = eqb (b / 2 ^ i % 2) 1

-- "A vector byte with bit 7 clear gives seven numbers .. With bit 7 set, bit 6 is the state and bits 0..5 the run length."
unfoldable pub says_of : ℕ → Saying
says_of b = cond (bit_of b 7) (Run (bit_of b 6) (b % 64)) (Map (b % 128))

-- k bits, the least significant first
unfoldable pub bits_of : ℕ → ℕ → List Bool
bits_of zero m = []
bits_of (suc k) m = eqb (m % 2) 1 ∷ bits_of k (m / 2)

-- the states that a byte gives, in the order of the numbers: "bit i for the i-th, 1 received"; "Length 0 and size 0 name nothing."
unfoldable pub states_in : Saying → List Bool
states_in (Map m) = bits_of 7 m
states_in (Run s n) = replicate n s

-- the states that a vector gives, from its base on
unfoldable pub states_of : List ℕ → List Bool
states_of [] = []
states_of (b ∷ bs) = states_in (says_of b) ++ states_of bs

-- does a vector from this base name number n as received?
unfoldable pub names : List ℕ → ℕ → ℕ → Bool
names v base n = cond (leb base n) (get_or (states_of v) (n - base) false) false

-- a vector gives every number of a range a state, and the right one; what it says past the range is not looked at
pub record Gives (v : List ℕ) (ss : List Bool) : Type 0 where
  pub every : length ss ≤ length (states_of v)
  pub right : (i : ℕ) → i < length ss → get_or (states_of v) i false ≡ get_or ss i false

-- from whatever base, no vector that names exactly the same numbers has fewer bytes
abbrev pub Shortest : List ℕ → Type 0
Shortest v = (base : ℕ) (u : List ℕ) → ((n : ℕ) → names u base n ≡ names v base n) → length v ≤ length u

-- how many of some states are received
unfoldable pub count_of : List Bool → ℕ
count_of [] = 0
count_of (s ∷ ss) = cond s (suc (count_of ss)) (count_of ss)

-- how many numbers a byte names as received
unfoldable pub received_in : ℕ → ℕ
received_in b = count_of (states_in (says_of b))
