-- Opening: "Opening takes the lowest free number"; "25 is given only if none is free"; "a token of 0 gives 24". Its order is 13, 24, 25, then the endpoint's own 15.
use Rattle.std.specs.Prelude.{ℕ, ◌+◌, cond, not, List, [], ◌∷◌, eqb, leb}
use Rattle.common.specs.Order.{Test, test, first}
use Rattle.endpoint.specs.Open.{opened_of}
use Rattle.session.specs.declared.Session.{Session}
use Rattle.session.specs.Place.{places}

-- before the endpoint's own, on a list of so many places whose lowest free place is at; past the end where none is free
abbrev pub open_tests : ℕ → ℕ → ℕ → List Test
open_tests count at token =
    test (not (eqb count places)) 13
    ∷ test (eqb token 0) 24
    ∷ test (leb places at) 25
    ∷ []

unfoldable pub open_answer : ℕ → ℕ → ℕ → ℕ
open_answer count at token = first (open_tests count at token)

-- what opening makes of a place: the number that answers, the session's number, 0 where opening is refused, and the session that stands at the place afterwards
pub record Opening : Type 0 where
  pub answer : ℕ
  pub number : ℕ
  pub session : Session

-- refused: nothing changes, and no number is given
abbrev pub refused_opening : ℕ → Session → Opening
refused_opening n old = record { answer = n; number = 0; session = old }

-- an endpoint opened for an owner: of what the place held nothing goes into it
unfoldable pub opened_for : ℕ → ℕ → ℕ → ℕ → Session
opened_for token firstdata firstchannel timeout =
    record {
      token = token;
      sender = (opened_of 32 firstdata firstchannel timeout).sender;
      receiver = (opened_of 32 firstdata firstchannel timeout).receiver;
    }

-- at a place that holds a session so far
unfoldable pub opening_of : ℕ → ℕ → ℕ → Session → ℕ → ℕ → ℕ → Opening
opening_of count at token old firstdata firstchannel timeout =
    cond (not (eqb (open_answer count at token) 0)) (refused_opening (open_answer count at token) old)
    (cond (not (eqb (opened_of 32 firstdata firstchannel timeout).answer 0)) (refused_opening (opened_of 32 firstdata firstchannel timeout).answer old)
    (record { answer = 0; number = at + 1; session = opened_for token firstdata firstchannel timeout }))
