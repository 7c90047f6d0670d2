-- The endpoint that opening makes, with the two stores that are lent: store is the receiver's, sent the sender's.
use Rattle.std.specs.Prelude.{ℕ, List, ◌≡◌, refl}
use Rattle.endpoint.specs.Open.{Opens, open_answer, fresh_pair, opened_of}
use Rattle.endpoint.specs.Receive.{halves}
use Rattle.endpoint.specs.Calls.{Endpoint}

-- an endpoint of what opening gives: the records that a call of `open` answers, as `told_of` keeps them
abbrev pub endpoint_of : Opens → List ℕ → List ℕ → Endpoint
endpoint_of o store sent = record { halves = halves o.sender o.receiver store; sent = sent }

-- two fresh halves
abbrev pub fresh_of : ℕ → ℕ → ℕ → ℕ → List ℕ → List ℕ → Endpoint
fresh_of cap firstdata firstchannel timeout store sent = endpoint_of (fresh_pair cap 0 firstdata firstchannel timeout) store sent

-- an opening that is accepted gives them
pub opened_fresh : (cap firstdata firstchannel timeout : ℕ) → open_answer firstdata firstchannel timeout ≡ 0
    → opened_of cap firstdata firstchannel timeout ≡ fresh_pair cap 0 firstdata firstchannel timeout
unfolding opened_of
opened_fresh cap firstdata firstchannel timeout h = rw h refl
