-- Judging a write, for the contract of the function that does.
use Rattle.std.specs.Prelude.{ℕ, List, length, Result}
use Rattle.common.specs.declared.Refusal.{Refusal}
use Rattle.common.specs.Answer.{settled}
use Rattle.wire.specs.declared.Values.{Values}
use Rattle.wire.specs.Write.{packet_bytes, write_answer}

-- judging a write: the refusal, or the packet's length
unfoldable pub judged_of : Values → List ℕ → List ℕ → List ℕ → ℕ → Result ℕ Refusal
judged_of v additions vector body room = settled (write_answer v additions vector body room) (length (packet_bytes v additions vector body))
