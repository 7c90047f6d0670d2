-- A datagram that was written passes every test of reading, and reads as the packet that was written.
use Rattle.std.specs.Prelude.{ℕ, ◌+◌, ◌-◌, ◌≤◌, max, Bool, true, false, not, List, ◌∷◌, ◌++◌, ◌≡◌, refl, replicate, eqb, ltb, Ok, Some}
use Rattle.std.proofs.Common.{◌∙◌, ap, length-append, le-ltb}
use native.Mathlib.Omega.{arith}
use Rattle.std.proofs.Math.ListN.{length}
use Rattle.common.specs.Order.{first, first_none, first_skip}
use Rattle.wire.specs.declared.Values.{Values}
use Rattle.wire.specs.Frame.{swapped, byte_at, reserved_in, type_in, prefix_for, padded}
use Rattle.wire.specs.Flags.{ack_in, data_in, vector_in, outside, both, either}
use Rattle.wire.specs.Layout.{flags_of, channel_end, part_of}
use Rattle.wire.specs.Read.{read_as, frame_tests, packet_tests, read_packet, read_of}
use Rattle.wire.specs.Write.{given, packet_bytes, datagram_of}
use Rattle.wire.specs.Same.{Says}
use Rattle.wire.specs.Round.Tests.{neither_of}
use Rattle.wire.specs.Round.Framing.{Prefix, prefix_facts, framed_length, framed_swapped, framed_end}
use Rattle.wire.specs.Round.Stands.{Stands}
use Rattle.wire.specs.Round.Chain.{Fits, packet_for, flags_read, packet_read_lem, at_body, points}

-- A packet has its header.
packet_long : (v : Values) (additions vector body : List ℕ) → 2 ≤ length (packet_bytes v additions vector body)
unfolding packet_bytes
packet_long v additions vector body = omega arith

-- Nothing is left over behind the payloads but where there is a body.
no_more : {p : List ℕ} {at : ℕ} (flag : Bool) (body rest : List ℕ) (end : ℕ) → end + length rest ≡ length p
    → Stands p at (given flag body ++ rest) → both (not flag) (ltb at end) ≡ false
no_more true body rest end e s = refl
no_more {at = at} false body rest end e s = le-ltb at end (omega (arith, s.inside))

module _ (v : Values) (additions vector body : List ℕ) (fits : Fits v additions vector) where
  abbrev packet : List ℕ
  packet = packet_bytes v additions vector body

  -- the datagram exchanged, and the zeros behind its packet
  abbrev whole : List ℕ
  whole = prefix_for packet ∷ padded packet

  abbrev zeros : List ℕ
  zeros = replicate (7 - length packet) 0

  pub laid_out : Stands whole 1 (packet ++ zeros)
  unfolding padded
  laid_out = record { bytes = refl; inside = omega arith }

  pub exchanged : swapped (datagram_of v additions vector body) ≡ whole
  unfolding datagram_of
  exchanged = framed_swapped (prefix_for packet) packet

  packet_passes : 0 ≡ first (packet_tests whole (1 + length packet))
  packet_passes =
      let f : flags_of whole ≡ v.flags = flags_read v additions vector body zeros fits laid_out in
      let at = at_body v additions vector body zeros fits laid_out in
      let n = length-append packet zeros in
      let b = length-append (given (data_in v.flags) body) zeros in
      let end : ℕ = 1 + length packet in
      let last : ℕ = channel_end whole (flags_of whole) in
      let header : ltb end 3 ≡ false = le-ltb end 3 (omega (arith, packet_long v additions vector body)) in
      let six : outside (flags_of whole) ≡ false = rw f fits.inside in
      let single : both (ack_in (flags_of whole)) (vector_in (flags_of whole)) ≡ false = rw f fits.single in
      let payloads : ltb end last ≡ false = rw f (le-ltb end _ (omega (arith, at.inside, laid_out.inside))) in
      let left : both (not (data_in (flags_of whole))) (ltb last end) ≡ false =
      rw f (no_more (data_in v.flags) body zeros end (omega (arith, laid_out.inside)) at) in
      first_none
      ∙ first_skip _ _ _ left
      ∙ first_skip _ _ _ payloads
      ∙ first_skip _ _ _ single
      ∙ first_skip _ _ _ six
      ∙ first_skip _ _ _ header

  packet_reads : read_packet whole (1 + length packet) ≡ Ok (Some (packet_for v additions vector body))
  unfolding read_packet
  packet_reads =
      rw (← packet_passes, flags_read v additions vector body zeros fits laid_out)
      (ap read_as (packet_read_lem v additions vector body zeros fits laid_out (1 + length packet) refl))

  pub datagram_length : length (datagram_of v additions vector body) ≡ 1 + max 7 (length packet)
  unfolding datagram_of
  datagram_length = framed_length (prefix_for packet) packet

  facts : Prefix packet
  facts = prefix_facts packet (omega (arith, packet_long v additions vector body))

  frame_passes : length (datagram_of v additions vector body) ≤ 1232 → 0 ≡ first (frame_tests (datagram_of v additions vector body))
  frame_passes short =
      let d : List ℕ = datagram_of v additions vector body in
      let x : ℕ = byte_at (swapped d) 0 in
      let long : ltb (length d) 8 ≡ false = le-ltb (length d) 8 (omega (arith, datagram_length)) in
      let fits : ltb 1232 (length d) ≡ false = le-ltb 1232 (length d) short in
      let lengths : either (ltb (length d) 8) (ltb 1232 (length d)) ≡ false = neither_of _ _ long fits in
      let prefix : either (eqb (reserved_in x) 1) (not (either (eqb (type_in x) 8) (eqb (type_in x) 0))) ≡ false =
      rw (exchanged, facts.plain, facts.kind) refl in
      first_none ∙ first_skip _ _ _ prefix ∙ first_skip _ _ _ lengths

  pub datagram_reads : length (datagram_of v additions vector body) ≤ 1232
      → read_of (datagram_of v additions vector body) ≡ Ok (Some (packet_for v additions vector body))
  unfolding read_of
  datagram_reads short =
      let end = framed_end packet (omega (arith, packet_long v additions vector body)) in
      rw (← (frame_passes short), exchanged, facts.kind, end) packet_reads

  pub datagram_says : length (datagram_of v additions vector body) ≤ 1232 → Says v additions vector body (datagram_of v additions vector body)
  unfolding packet_for part_of
  datagram_says short =
      let there = points v additions vector body zeros fits laid_out in
      record {
        packet = packet_for v additions vector body;
        reads = datagram_reads short;
        values = refl;
        additions_same = rw exchanged there.additions_there;
        vector_same = rw exchanged there.vector_there;
        body_same = rw exchanged there.body_there;
      }
