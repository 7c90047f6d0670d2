-- A sound endpoint: neither half's call would be refused by 13, "a lent block store not 39,200 bytes, or an inconsistent record".
use Rattle.std.specs.Prelude.{ℕ, true, ◌≡◌, length}
use Rattle.receiver.specs.Consistent as receiver_tests
use Rattle.sender.specs.Consistent as sender_tests
use Rattle.endpoint.specs.Calls.{Endpoint}

-- both halves are sound, each with its own store
pub record Sound (w cap : ℕ) (e : Endpoint) : Type 0 where
  pub sender : sender_tests.sound_of w cap e.halves.sender (length e.sent) ≡ true
  pub receiver : receiver_tests.sound_of w cap e.halves.receiver (length e.halves.store) ≡ true
