-- How an acknowledgement is judged: "Reading stops at the first named number that was never sent." What the walk of a vector flags, and
-- what a judged acknowledgement makes of a record.
use Rattle.std.specs.Prelude.{ℕ, ◌+◌, ◌%◌, Bool, true, false, cond, List, [], ◌∷◌, ◌≡◌, refl, get_or, set, replicate, leb, ltb, Result, Ok, Err, Option, Some, None}
use Rattle.common.specs.declared.Refusal.{Refusal}
use Rattle.common.specs.declared.Refusal.TheVariants.{NeverSent}
use Rattle.numbers.specs.declared.Widened.{Widened}
use Rattle.numbers.specs.declared.Widened.TheVariants.{At, Below, Unclear}
use Rattle.vector.specs.Says.{states_of}
use Rattle.sender.specs.declared.Sender.{Sender}
use Rattle.acknowledging.specs.declared.Named.{Named}
use Rattle.sender.specs.Turn.{turned_of}
use Rattle.turning.specs.Chosen.{chosen_by}
use Rattle.sender.specs.Acknowledge.{acknowledging}

-- the states from number n on: a named number that is not below next ends the walk, which gives none; else a named number from low on is flagged at its place
unfoldable pub walk_of : ℕ → List Bool → ℕ → ℕ → ℕ → List Bool → Option (List Bool)
walk_of w [] n next low flags = Some flags
walk_of w (t ∷ ts) n next low flags =
    cond (cond t (leb next n) false) None
    (walk_of w ts (n + 1) next low (set flags (n % w) (cond (get_or flags (n % w) false) true (cond t (leb low n) false))))

-- nothing is named
abbrev pub nothing : ℕ → Named
nothing w = record { flags = replicate w false; upto = 0 }

-- every number up to one
unfoldable pub judge_up_to : ℕ → ℕ → ℕ → Widened ℕ → Result Named Refusal
judge_up_to w firstdata next (At n) =
    cond (ltb n firstdata) (Err NeverSent)
    (cond (leb next n) (Err NeverSent) (Ok (record { flags = replicate w false; upto = n + 1 })))
judge_up_to w firstdata next (Below m) = Err NeverSent
judge_up_to w firstdata next Unclear = Err NeverSent

-- what a vector names
unfoldable pub from_walk : ℕ → Option (List Bool) → Result Named Refusal
from_walk w None = Err NeverSent
from_walk w (Some flags) = Ok (record { flags = flags; upto = 0 })

unfoldable pub judge_listed : ℕ → ℕ → ℕ → ℕ → Widened ℕ → List ℕ → Result Named Refusal
judge_listed w firstdata low next (At n) v =
    cond (ltb n firstdata) (Err NeverSent) (from_walk w (walk_of w (states_of v) n next low (replicate w false)))
judge_listed w firstdata low next (Below m) v = Err NeverSent
judge_listed w firstdata low next Unclear v = Err NeverSent

-- the record after a judged acknowledgement: a refusal applies nothing
unfoldable pub applied_of : ℕ → Sender → Result Named Refusal → Sender
applied_of w s (Ok k) = turned_of w acknowledging (chosen_by w k.flags k.upto) s
applied_of w s (Err r) = s

pub applied_so : (w : ℕ) (s : Sender) (k : Named) → applied_of w s (Ok k) ≡ turned_of w acknowledging (chosen_by w k.flags k.upto) s
unfolding applied_of
applied_so w s k = refl
