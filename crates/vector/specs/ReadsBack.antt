-- What the rule writes reads back: the vector names exactly the received numbers of the range.
use Rattle.std.specs.Prelude.{ℕ, ◌-◌, Bool, false, cond, List, ◌≡◌, length, get_or, leb}
use Rattle.std.proofs.Common.{ap, arith}
use Rattle.vector.specs.Says.{states_of, names}
use Rattle.vector.specs.Rule.{vector_of}
use Rattle.vector.specs.Reading.{states_back}

-- THE THEOREM. State i of the written vector is state i of the range, and missing past it.
pub reads_back : (ss : List Bool) (i : ℕ) → get_or (states_of (vector_of ss)) i false ≡ get_or ss i false
reads_back ss i = states_back (length ss) ss (omega arith) i

-- The same of numbers: from any base, number n is named exactly if it lies in the range and was received.
pub names_exactly : (ss : List Bool) (base n : ℕ) → names (vector_of ss) base n ≡ cond (leb base n) (get_or ss (n - base) false) false
unfolding names
names_exactly ss base n = ap (λ (s : Bool). cond (leb base n) s false) (reads_back ss (n - base))
