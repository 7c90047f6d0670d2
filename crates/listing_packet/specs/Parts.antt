-- The listing in parts, as one function after the other writes it.
use Rattle.std.specs.Prelude.{ℕ, List, [], ◌∷◌}
use Rattle.common.specs.Put.{joined}
use Rattle.text.specs.Decimal.{decimal_of}
use Rattle.text.specs.Lines.{line}
use Rattle.wire.specs.declared.Values.{Values}
use Rattle.wire.specs.Flags.{ack_in, data_in, vector_in, aoa_in, overhead_in, delay_in}
use Rattle.listing_fields.specs.Fields.{or_dash, ack_text, delay_text, vector_text}

-- the twelve lines, four at a time
unfoldable pub head_lines : Values → List ℕ
head_lines v =
    joined
    (line "answer" (decimal_of 0)
    ∷ line "type" (decimal_of 0)
    ∷ line "flags" (decimal_of v.flags)
    ∷ line "logwindow" (decimal_of v.logwindow)
    ∷ [])

unfoldable pub middle_lines : Values → List ℕ
middle_lines v =
    joined
    (line "ack" (or_dash (ack_in v.flags) (ack_text v.ack))
    ∷ line "overhead" (or_dash (overhead_in v.flags) (decimal_of v.overhead))
    ∷ line "delay" (or_dash (delay_in v.flags) (delay_text v.delay))
    ∷ line "aoa" (or_dash (aoa_in v.flags) (decimal_of v.aoa))
    ∷ [])

unfoldable pub tail_lines : Values → ℕ → List ℕ
tail_lines v bytes =
    joined
    (line "data" (or_dash (data_in v.flags) (decimal_of v.number))
    ∷ line "vec" (or_dash (vector_in v.flags) (vector_text v.vector))
    ∷ line "channel" (or_dash (data_in v.flags) (decimal_of v.channel))
    ∷ line "bytes" (or_dash (data_in v.flags) (decimal_of bytes))
    ∷ [])
