-- What an event's call promises, in the terms of its definitions.
use Rattle.std.specs.Prelude.{ℕ, List, ◌≡◌}
use Rattle.common.specs.Answer.{settled}
use Rattle.endpoint.specs.Calls.{Endpoint, Call, answer_of, call_of}
use Rattle.calling.specs.declared.Called.{Called}
use Rattle.calling.specs.Asks.{endpoint_with, lost_to}

-- a call was made: its answer, with how many it found lost where it is accepted, and the endpoint that it left, with the stores as they stand
pub record Does (e : Endpoint) (c : Call) (x : Called) (store sent : List ℕ) : Type 0 where
  pub answer : x.answer ≡ settled (answer_of 32 32 e c) (lost_to e c)
  pub left : endpoint_with x.sender x.receiver store sent ≡ call_of 32 32 e c
