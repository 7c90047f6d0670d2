-- A history of calls: datagrams that arrive and takes, each call given the record and the store as the call before left them.
use Rattle.std.specs.Prelude.{ℕ, zero, suc, cond, List, [], ◌∷◌, ◌++◌, eqb}
use Rattle.window.specs.Store.{place_size}
use Rattle.receiver.specs.Record.{State}
use Rattle.receiver.specs.Take.{take_answer, block_due, taken_of}
use Rattle.receiver.specs.Receive.{receive_of}

-- a datagram arrives; a take is made, with room for so many bytes
pub data Event : Type 0 where
  arrives : List ℕ → Event
  takes : ℕ → Event

abbrev pub step_of : ℕ → ℕ → State → Event → State
step_of w cap s (arrives d) = receive_of w cap s d
step_of w cap s (takes room) = record { receiver = taken_of w cap s room; store = s.store }

unfoldable pub run_of : ℕ → ℕ → State → List Event → State
run_of w cap s [] = s
run_of w cap s (e ∷ es) = run_of w cap (step_of w cap s e) es

-- the block that an accepted take hands over
unfoldable pub given_of : ℕ → ℕ → State → ℕ → List (List ℕ)
given_of w cap s room = cond (eqb (take_answer w cap s room) 0) (block_due w s ∷ []) []

abbrev pub given_by : ℕ → ℕ → State → Event → List (List ℕ)
given_by w cap s (arrives d) = []
given_by w cap s (takes room) = given_of w cap s room

-- the blocks handed over in all, in order
unfoldable pub handed_of : ℕ → ℕ → State → List Event → List (List ℕ)
handed_of w cap s [] = []
handed_of w cap s (e ∷ es) = given_by w cap s e ++ handed_of w cap (step_of w cap s e) es

unfoldable pub datagrams_of : List Event → List (List ℕ)
datagrams_of [] = []
datagrams_of (arrives d ∷ es) = d ∷ datagrams_of es
datagrams_of (takes room ∷ es) = datagrams_of es

-- k takes, with room for any block
unfoldable pub takes_of : ℕ → List Event
takes_of zero = []
takes_of (suc k) = takes place_size ∷ takes_of k
