-- Writing packet values: "4, 5, 10 (also a count that is not its bytes' length), 14; what is not flagged is not looked at."
use Rattle.std.specs.Prelude.{ℕ, ◌+◌, ◌*◌, ◌%◌, ◌/◌, ◌^◌, Bool, cond, not, List, [], ◌∷◌, ◌++◌, length, eqb, ltb, leb}
use Rattle.common.specs.Put.{joined}
use Rattle.common.specs.Order.{Test, test, first}
use Rattle.wire.specs.declared.Ack.{Ack}
use Rattle.wire.specs.declared.Delay.{Delay}
use Rattle.wire.specs.declared.Vector.{Vector}
use Rattle.wire.specs.declared.Values.{Values}
use Rattle.wire.specs.Frame.{framed, prefix_for, padded}
use Rattle.wire.specs.Flags.{ack_in, data_in, vector_in, aoa_in, overhead_in, delay_in, outside, both, either}

-- two and three bytes, the least significant first
abbrev pub word_bytes : ℕ → List ℕ
word_bytes n = n % 256 ∷ n / 256 ∷ []

abbrev pub three_bytes : ℕ → List ℕ
three_bytes n = n % 256 ∷ n / 256 % 256 ∷ n / 65536 ∷ []

-- some bytes where they are flagged, none where they are not
abbrev pub given : Bool → List ℕ → List ℕ
given flag b = cond flag b []

-- each payload as document 01 lays it out
abbrev pub ack_bytes : Ack → List ℕ → List ℕ
ack_bytes a additions =
    joined (word_bytes a.number ∷ three_bytes a.time ∷ (a.gap ∷ []) ∷ ((a.count + 16 * a.scale) ∷ []) ∷ additions ∷ [])

abbrev pub delay_bytes : Delay → List ℕ
delay_bytes y = y.most ∷ word_bytes y.timeout

abbrev pub stamp_bytes : Vector → List ℕ
stamp_bytes x = given x.timed (three_bytes x.time ++ (x.gap ∷ []))

abbrev pub vector_bytes : Vector → List ℕ → List ℕ
vector_bytes x bytes = joined (word_bytes x.base ∷ ((x.size + 128 * cond x.timed 1 0) ∷ []) ∷ stamp_bytes x ∷ bytes ∷ [])

abbrev pub header_bytes : Values → List ℕ
header_bytes v = word_bytes (v.flags + 4096 * v.logwindow)

-- "Payloads, in this order."
unfoldable pub packet_bytes : Values → List ℕ → List ℕ → List ℕ → List ℕ
packet_bytes v additions vector body =
    joined
    (header_bytes v
    ∷ given (ack_in v.flags) (ack_bytes v.ack additions)
    ∷ given (overhead_in v.flags) (v.overhead ∷ [])
    ∷ given (delay_in v.flags) (delay_bytes v.delay)
    ∷ given (aoa_in v.flags) (word_bytes v.aoa)
    ∷ given (data_in v.flags) (word_bytes v.number)
    ∷ given (vector_in v.flags) (vector_bytes v.vector vector)
    ∷ given (data_in v.flags) (word_bytes v.channel ++ body)
    ∷ [])

-- the datagram as it goes out
unfoldable pub datagram_of : Values → List ℕ → List ℕ → List ℕ → List ℕ
datagram_of v additions vector body =
    framed (prefix_for (packet_bytes v additions vector body)) (padded (packet_bytes v additions vector body))

-- "a value wider than its field", or "a count that is not its bytes' length"; numbers of 8 and 16 bits have no wider values
abbrev pub ack_wide : Ack → ℕ → Bool
ack_wide a n =
    either (leb (2 ^ 24) a.time) (either (leb 16 a.count) (either (leb 16 a.scale) (not (eqb a.count n))))

abbrev pub vector_wide : Vector → ℕ → Bool
vector_wide x n =
    either (leb 128 x.size) (either (both x.timed (leb (2 ^ 24) x.time)) (not (eqb x.size n)))

-- the tests of the values, and those of the datagram's length
abbrev pub value_tests : Values → ℕ → ℕ → List Test
value_tests v additions vector =
    test (outside v.flags) 4
    ∷ test (both (ack_in v.flags) (vector_in v.flags)) 5
    ∷ test (leb 16 v.logwindow) 10
    ∷ test (both (ack_in v.flags) (ack_wide v.ack additions)) 10
    ∷ test (both (vector_in v.flags) (vector_wide v.vector vector)) 10
    ∷ []

abbrev pub size_tests : ℕ → ℕ → List Test
size_tests size room = test (ltb 1232 size) 10 ∷ test (ltb room size) 14 ∷ []

abbrev pub write_tests : Values → List ℕ → List ℕ → List ℕ → ℕ → List Test
write_tests v additions vector body room =
    value_tests v (length additions) (length vector) ++ size_tests (length (datagram_of v additions vector body)) room

-- the number that writing into room for so many bytes answers
unfoldable pub write_answer : Values → List ℕ → List ℕ → List ℕ → ℕ → ℕ
write_answer v additions vector body room = first (write_tests v additions vector body room)
