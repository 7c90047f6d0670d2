-- No vector is shorter than the one that the rule writes.
use Rattle.std.specs.Prelude.{ℕ, ◌+◌, ◌-◌, ◌≤◌, Bool, true, false, List, ◌≡◌, refl, length, get_or}
use Rattle.std.proofs.Common.{⊎_elim, sym, ◌∙◌, arith, le-leb}
use Rattle.std.proofs.Math.ListN.{get_or-eq_default}
use Rattle.common.specs.Facts.{lt_or_ge, clash}
use Rattle.vector.specs.Says.{states_of, names, Gives, Shortest}
use Rattle.vector.specs.Rule.{vector_of}
use Rattle.vector.specs.Reading.{states_reach}
use Rattle.vector.specs.ReadsBack.{reads_back}
use Rattle.vector.proofs.Reach.{fewest_from}

-- THE THEOREM. For any range of states, its last one missing too: of all byte strings that give every number of the range a state, and the right one, the
-- rule's has the fewest bytes.
pub fewest : (ss : List Bool) (v : List ℕ) → Gives v ss → length (vector_of ss) ≤ length v
fewest ss v g = fewest_from v ss 0 g

-- The rule's vector is one of them.
pub vector_gives : (ss : List Bool) → Gives (vector_of ss) ss
vector_gives ss = record { every = states_reach (length ss) ss (omega arith); right = λ i h. reads_back ss i }

-- what a vector names is what its states say
named_state : (v : List ℕ) (base i : ℕ) → names v base (base + i) ≡ get_or (states_of v) i false
unfolding names
named_state v base i = let e : base + i - base ≡ i = omega arith in rw (le-leb base (base + i) (omega arith), e) refl

-- Where the range ends at a received number, no vector that names exactly the same numbers from the same base has fewer bytes: who names the last number
-- has given every number before it a state. The bytes are any: runs of no number, runs shorter than they could be, maps and missing states past the range.
pub no_vector_is_shorter : (ss : List Bool) → get_or ss (length ss - 1) false ≡ true → Shortest (vector_of ss)
no_vector_is_shorter ss last base u same = fewest ss u (record { every = reach; right = λ i h. state i })
  where
    state : (i : ℕ) → get_or (states_of u) i false ≡ get_or ss i false
    state i = sym (named_state u base i) ∙ same (base + i) ∙ named_state (vector_of ss) base i ∙ reads_back ss i

    reach : length ss ≤ length (states_of u)
    reach =
        ⊎_elim
        (λ within. omega arith)
        (λ past. clash (get_or ss (length ss - 1) false) last (sym (state (length ss - 1)) ∙ get_or-eq_default (states_of u) false past))
        (lt_or_ge (length ss - 1) (length (states_of u)))
