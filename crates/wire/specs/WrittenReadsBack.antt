-- Demand 2: what is written reads back to the same values.
use Rattle.std.specs.Prelude.{ℕ, List, ◌≡◌, take, Ok}
use Rattle.common.specs.Answer.{written_of, left_of}
use Rattle.wire.specs.declared.Values.{Values}
use Rattle.wire.specs.Write.{datagram_of, write_answer}
use Rattle.wire.specs.Same.{Says}
use Rattle.wire.specs.Round.Accepted.{accepted_fits, accepted_short, wrote}
use Rattle.wire.specs.Round.ReadsBack.{datagram_says}

pub written_reads_back : (v : Values) (additions vector body : List ℕ) (room : ℕ)
    → 0 ≡ write_answer v additions vector body room → Says v additions vector body (datagram_of v additions vector body)
written_reads_back v additions vector body room e =
    datagram_says v additions vector body (accepted_fits v additions vector body room e) (accepted_short v additions vector body room e)

-- Of the two calls: the bytes that an accepted write reports, read, say what was written.
pub write_then_read : (v : Values) (additions vector body out : List ℕ) (room k : ℕ)
    → written_of (write_answer v additions vector body room) (datagram_of v additions vector body) ≡ Ok k
    → Says v additions vector body (take k (left_of (write_answer v additions vector body room) (datagram_of v additions vector body) out))
write_then_read v additions vector body out room k e =
    let (accepted, same) = wrote _ _ out k e in
    rw same (written_reads_back v additions vector body room accepted)
