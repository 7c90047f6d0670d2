-- Reading a datagram: "Order: reading a datagram 1, 2, 3 (header), 4, 5, 3 (payloads), 6."
use Rattle.std.specs.Prelude.{ℕ, cond, not, List, [], ◌∷◌, length, eqb, ltb, Option, Result, Err, Ok, Some, None}
use Rattle.common.specs.declared.Refusal.{Refusal}
use Rattle.common.specs.Answer.{refusal_of}
use Rattle.common.specs.Order.{Test, test, first}
use Rattle.wire.specs.declared.Packet.{Packet}
use Rattle.wire.specs.Frame.{swapped, byte_at, reserved_in, type_in, end_of}
use Rattle.wire.specs.Flags.{ack_in, vector_in, data_in, outside, both, either}
use Rattle.wire.specs.Layout.{flags_of, channel_end, packet_of}

-- what reading answers: the refusal, or the packet of type 0; nothing where it is a dummy, of which nothing further is read
abbrev pub Reading : Type 0
Reading = Result (Option Packet) Refusal

-- a packet that was read
abbrev pub read_as : Packet → Reading
read_as p = Ok (Some p)

-- "1: datagram shorter than 8 or longer than 1,232 bytes. 2: prefix reserved bit set, or packet type not 0 or 8."
abbrev pub frame_tests : List ℕ → List Test
frame_tests d =
    test (either (ltb (length d) 8) (ltb 1232 (length d))) 1
    ∷ test (either (eqb (reserved_in (byte_at (swapped d) 0)) 1) (not (either (eqb (type_in (byte_at (swapped d) 0)) 8) (eqb (type_in (byte_at (swapped d) 0)) 0)))) 2
    ∷ []

-- the refusal by its number, or what follows an accepted test
abbrev pub refused : ℕ → Reading → Reading
refused n r = cond (eqb n 0) r (Err (refusal_of n))

-- "3: header or a flagged payload runs past the packet's end. 4: a flag outside the six. 5: ACK and ACKVEC both set.
-- 6: bytes left over and DATA not set." The last payload ends last, so one of them runs past the end exactly if all together do.
abbrev pub payload_tests : List ℕ → ℕ → ℕ → List Test
payload_tests p f end =
    test (ltb end (channel_end p f)) 3
    ∷ test (both (not (data_in f)) (ltb (channel_end p f) end)) 6
    ∷ []

abbrev pub packet_tests : List ℕ → ℕ → List Test
packet_tests p end =
    test (ltb end 3) 3
    ∷ test (outside (flags_of p)) 4
    ∷ test (both (ack_in (flags_of p)) (vector_in (flags_of p))) 5
    ∷ payload_tests p (flags_of p) end

unfoldable pub read_payloads : List ℕ → ℕ → ℕ → Reading
read_payloads p f end = refused (first (payload_tests p f end)) (Ok (Some (packet_of p f end)))

-- "Type 0 is data."
unfoldable pub read_packet : List ℕ → ℕ → Reading
read_packet p end = refused (first (packet_tests p end)) (Ok (Some (packet_of p (flags_of p) end)))

-- "Type 8 is a dummy: accepted, nothing further read"
unfoldable pub read_of : List ℕ → Reading
read_of d =
    refused (first (frame_tests d)) (cond (eqb (type_in (byte_at (swapped d) 0)) 8) (Ok None) (read_packet (swapped d) (end_of (swapped d))))
