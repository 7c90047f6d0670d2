-- What the rule writes for some patterns, beside another vector that names the same numbers from the same base, as one statement over one list. The
-- rivals are what another rule, or a wasteful writer, would write; none is shorter, as no vector could be.
use Rattle.std.specs.Prelude.{ℕ, ◌+◌, ◌-◌, true, false, List, [], ◌∷◌, ◌++◌, ◌≡◌, refl, length, get_or}
use Rattle.vector.specs.Says.{says_of, bits_of, states_in, states_of, names, Shortest}
use Rattle.vector.specs.Rule.{alike, run_of, map_of, byte_of, covers_of, bytes_by, vector_of}
use Rattle.vector.proofs.NoVectorIsShorter.{no_vector_is_shorter}
use Rattle.cases.specs.Cases.{numbers, named_from, named_by, states_for}

-- the received numbers from a base on, the rule's vector for them, its rival, and how many bytes more the rival has
pub record Rival : Type 0 where
  pub base : ℕ
  pub received : List ℕ
  pub ours : List ℕ
  pub other : List ℕ
  pub more : ℕ

-- both name just these numbers, and the range ends at a received one
abbrev pub Met : Rival → Type 0
Met r =
    (vector_of (states_for r.base r.received) ≡ r.ours)
    × (named_by r.ours r.base ≡ r.received)
    × (named_by r.other r.base ≡ r.received)
    × (length r.other ≡ length r.ours + r.more)
    × (get_or (states_for r.base r.received) (length (states_for r.base r.received) - 1) false ≡ true)

abbrev pub AllMet : List Rival → Type 0
AllMet [] = Unit {0}
AllMet (r ∷ rs) = Met r × AllMet rs

unfoldable pub rivals : List Rival
rivals =
    -- runs from six on: a map reaches one number farther
    record { base = 10; received = 16 ∷ []; ours = 0x40 ∷ []; other = 0x86 ∷ 0x01 ∷ []; more = 1 }
    -- runs from seven on, on P5's number: a run of seven reaches just as far as a map
    ∷ record { base = 10; received = 17 ∷ []; ours = 0x00 ∷ 0x01 ∷ []; other = 0x87 ∷ 0x01 ∷ []; more = 0 }
    -- runs from nine on, on eight received numbers
    ∷ record { base = 10; received = numbers 10 8; ours = 0xc8 ∷ []; other = 0x7f ∷ 0x01 ∷ []; more = 1 }
    -- a run that looks dear: it reaches one number farther than a map, and then the run at the end is cut to seven; two maps would spare that one
    ∷ record { base = 10; received = numbers 10 8 ++ (19 ∷ 21 ∷ numbers 24 8); ours = 0xc8 ∷ 0x4a ∷ 0x7f ∷ []; other = 0x7f ∷ 0x15 ∷ 0xc8 ∷ []; more = 0 }
    -- a map that looks dear: it cuts six numbers off the longest run; a run of one number would spare it
    ∷ record { base = 10; received = numbers 11 63; ours = 0x7e ∷ 0xf9 ∷ []; other = 0x81 ∷ 0xff ∷ []; more = 0 }
    -- a run of no number, and missing states past the last received number
    ∷ record { base = 10; received = 16 ∷ []; ours = 0x40 ∷ []; other = 0xc0 ∷ 0x40 ∷ 0xbf ∷ []; more = 2 }
    ∷ []

pub rivals_met : AllMet rivals
unfolding rivals numbers named_from named_by states_for says_of bits_of states_in states_of names alike run_of map_of byte_of covers_of bytes_by vector_of
rivals_met = (
  (refl, refl, refl, refl, refl),
  (
    (refl, refl, refl, refl, refl),
    (
      (refl, refl, refl, refl, refl),
      ((refl, refl, refl, refl, refl), ((refl, refl, refl, refl, refl), ((refl, refl, refl, refl, refl), tt))),
    ),
  ),
)

-- and the theorem says of each pattern that no vector at all is shorter
abbrev pub AllShortest : List Rival → Type 0
AllShortest [] = Unit {0}
AllShortest (r ∷ rs) = Shortest r.ours × AllShortest rs

shortest : (rs : List Rival) → AllMet rs → AllShortest rs
shortest [] m = tt
shortest (r ∷ rs) (m, ms) =
    let (ours, named, other, more, ends) = m in
    (rw (← ours) (no_vector_is_shorter (states_for r.base r.received) ends), shortest rs ms)

pub rivals_shortest : AllShortest rivals
rivals_shortest = shortest rivals rivals_met
