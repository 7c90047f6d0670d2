-- `HistoriesAreIsolated` is not proved of nothing: two runs of the owner with token 7 from the same empty list of forty, one alone, one with another owner between, who opens,
-- is refused with 24 at 7's number, closes its own, and opens again. The runs agree at each opening of 7's, 7 has two sessions at once, and its answers are computed.
use Rattle.std.specs.Prelude.{ℕ, List, [], ◌∷◌, ◌≡◌, refl, replicate}
use Rattle.std.proofs.Common.{arith}
use Rattle.common.specs.Order.{first}
use Rattle.endpoint.specs.Open.{open_answer, opened_of}
use Rattle.session.specs.Place.{blank, places, place_of, place_answer}
use Rattle.session.specs.Call.{no_stores, closes, done_of, made_of}
use Rattle.session.specs.Open.{open_answer as opening_answer, opening_of, opened_for}
use Rattle.owners.specs.Histories.{Box, Happens, mine, opening, other, other_opening, Foreign, Has, has, grants}
use Rattle.owners.specs.HistoriesAreIsolated.{histories}

-- nothing is open
pub empty : Box
empty = record { list = replicate places blank; stores = replicate places no_stores }

-- the owner's calls: two openings, a closing of the first, one of no session, and a third opening
pub single : List Happens
single =
    opening 1 2 300 no_stores
    ∷ opening 3 4 300 no_stores
    ∷ mine 1 closes
    ∷ mine 1 closes
    ∷ opening 1 2 299 no_stores
    ∷ opening 5 6 300 no_stores
    ∷ []

-- the same with another owner between
pub mixed : List Happens
mixed =
    opening 1 2 300 no_stores
    ∷ opening 3 4 300 no_stores
    ∷ other_opening 9 7 8 300
    ∷ other 9 1 [] closes
    ∷ other 0 1 [] closes
    ∷ mine 1 closes
    ∷ other 9 3 [] closes
    ∷ mine 1 closes
    ∷ opening 1 2 299 no_stores
    ∷ opening 5 6 300 no_stores
    ∷ other_opening 9 7 8 300
    ∷ []

foreign_single : Foreign 7 single
unfolding empty single Foreign
foreign_single = tt

foreign_mixed : Foreign 7 mixed
unfolding mixed Foreign
foreign_mixed = ((λ e. omega arith), ((λ e. omega arith), ((λ e. omega arith), ((λ e. omega arith), ((λ e. omega arith), tt)))))

abbrev answers_of : List Has → List ℕ
answers_of [] = []
answers_of (x ∷ xs) = x.reply.answer ∷ answers_of xs

abbrev numbers_of : List Has → List ℕ
numbers_of [] = []
numbers_of (x ∷ xs) = x.number ∷ numbers_of xs

same_grants : grants 7 empty single ≡ grants 7 empty mixed
unfolding empty single mixed grants opening_of opening_answer first opened_of open_answer opened_for made_of place_answer place_of done_of blank
same_grants = refl

-- what 7 is answered: accepted, accepted, closed, no such session, 15, accepted; with numbers 1, 2 and, after the closing, 1 again
pub answers_alone : (answers_of (has 7 empty single) ≡ 0 ∷ 0 ∷ 0 ∷ 24 ∷ 15 ∷ 0 ∷ []) × (numbers_of (has 7 empty single) ≡ 1 ∷ 2 ∷ 0 ∷ 0 ∷ 0 ∷ 1 ∷ [])
unfolding empty single has opening_of opening_answer first opened_of open_answer opened_for made_of place_answer place_of done_of blank
answers_alone = (refl, refl)

-- and so it is with the other between, by the theorem
pub same_histories : has 7 empty single ≡ has 7 empty mixed
unfolding single mixed empty
same_histories = histories 7 (λ e. omega arith) empty empty refl refl refl refl single mixed foreign_single foreign_mixed refl same_grants
