-- A session's place: "A session has a number, 1 to 40, and an owner's 64-bit token given at opening, where 0 means free." The number is the place in the list, counted
-- from 1. "Refusals, before all others: 13 for a list not of forty, 23 for a number outside 1 to 40, 24 for no such session .. a token of 0 gives 24."
use Rattle.std.specs.Prelude.{ℕ, ◌-◌, Bool, cond, not, List, [], ◌∷◌, ◌≡◌, refl, eqb, ltb}
use Rattle.common.specs.Order.{Test, test, first}
use Rattle.endpoint.specs.Open.{zero_pair}
use Rattle.session.specs.declared.Session.{Session}

-- "a list of forty session records"
abbrev pub places : ℕ
places = 40

-- a free place is zero throughout: no token, and two halves of zeros
unfoldable pub blank : Session
blank = record { token = 0; sender = (zero_pair 32 0).sender; receiver = (zero_pair 32 0).receiver }

pub blank_token : blank.token ≡ 0
unfolding blank
blank_token = refl

-- "where 0 means free"
abbrev pub free_of : Session → Bool
free_of s = eqb s.token 0

-- the place of a number, counted from 0; past the end where the number is outside 1 to 40
unfoldable pub place_of : ℕ → ℕ
place_of n = cond (ltb n 1) places (cond (ltb places n) places (n - 1))

-- The tests look at the token at the number's place and at nothing else of it, so "A wrong token and a free place get the same refusal": 24.
abbrev pub place_tests : ℕ → ℕ → ℕ → ℕ → List Test
place_tests count number token owner =
    test (not (eqb count places)) 13
    ∷ test (ltb number 1) 23
    ∷ test (ltb places number) 23
    ∷ test (eqb token 0) 24
    ∷ test (not (eqb owner token)) 24
    ∷ []

unfoldable pub place_answer : ℕ → ℕ → ℕ → ℕ → ℕ
place_answer count number token owner = first (place_tests count number token owner)
