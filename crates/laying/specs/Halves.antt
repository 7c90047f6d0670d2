-- A packet in the two parts that are laid one after the other.
use Rattle.std.specs.Prelude.{List, [], ◌∷◌, ◌++◌, ℕ}
use Rattle.common.specs.Put.{joined}
use Rattle.wire.specs.declared.Values.{Values}
use Rattle.wire.specs.Flags.{ack_in, data_in, vector_in, aoa_in, overhead_in, delay_in}
use Rattle.wire.specs.Write.{word_bytes, given, ack_bytes, delay_bytes, vector_bytes, header_bytes}

-- a packet in two parts: the header with the payloads up to AckOfAcks, and the payloads from DataHeader on
unfoldable pub front_bytes : Values → List ℕ → List ℕ
front_bytes v additions =
    joined
    (header_bytes v
    ∷ given (ack_in v.flags) (ack_bytes v.ack additions)
    ∷ given (overhead_in v.flags) (v.overhead ∷ [])
    ∷ given (delay_in v.flags) (delay_bytes v.delay)
    ∷ given (aoa_in v.flags) (word_bytes v.aoa)
    ∷ [])

unfoldable pub back_bytes : Values → List ℕ → List ℕ → List ℕ
back_bytes v vector body =
    joined
    (given (data_in v.flags) (word_bytes v.number)
    ∷ given (vector_in v.flags) (vector_bytes v.vector vector)
    ∷ given (data_in v.flags) (word_bytes v.channel ++ body)
    ∷ [])
