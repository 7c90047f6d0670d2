-- What was read of a list of bytes is accepted for writing, and the datagram that is written of it reads the same.
use Rattle.std.specs.Prelude.{ℕ, ◌+◌, ◌%◌, ◌/◌, ◌^◌, ◌≤◌, Bool, true, false, cond, not, List, ◌++◌, ◌≡◌, refl, length, drop, leb, Ok, Some}
use Rattle.std.proofs.Math.Path.{sym}
use Rattle.std.proofs.Common.{◌∙◌, ap, arith, length-append, length-drop, le-ltb, eq-eqb}
use Rattle.std.proofs.lemmas.Bool.{lt-leb}
use Rattle.common.specs.Order.{first_none, first_skip}
use Rattle.wire.specs.declared.Values.{Values}
use Rattle.wire.specs.Frame.{byte_at, word_at, three_at, swapped, end_of}
use Rattle.wire.specs.Flags.{ack_in, vector_in, both}
use Rattle.wire.specs.Layout.{flags_of, sized, ack_at, timed_at, vector_at, number_end, no_ack, no_vector, values_of, part_of}
use Rattle.wire.specs.Read.{read_as, read_of}
use Rattle.wire.specs.Write.{ack_wide, vector_wide, packet_bytes, datagram_of, write_answer}
use Rattle.wire.specs.Same.{additions_in, coded_in, body_in, Bytes}
use Rattle.wire.specs.Round.Tests.{neither_of}
use Rattle.wire.specs.Round.Framing.{swapped_length, swapped_small}
use Rattle.wire.specs.Round.Stands.{Stands}
use Rattle.wire.specs.Round.Payloads.{AckFits, VectorFits}
use Rattle.wire.specs.Round.Chain.{Fits, packet_for, packet_read_lem, points}
use Rattle.wire.specs.Round.ReadsBack.{laid_out, exchanged, datagram_length, datagram_reads}
use Rattle.wire.specs.Round.Respelled.{additions_of, coded_of, read_values, read_additions, read_vector, read_body, stands, fits}
use Rattle.wire.specs.Round.Found.{found, Found}

-- No value that was read is wider than its field.
module _ (p : List ℕ) (small : Bytes p) where
  ack_narrow : (flag : Bool) → (flag ≡ true → AckFits (cond flag (ack_at p 3) no_ack) (additions_of p flag))
      → both flag (ack_wide (cond flag (ack_at p 3) no_ack) (length (additions_of p flag))) ≡ false
  ack_narrow true fit =
      neither_of _ _ (lt-leb (2 ^ 24) (three_at p 5) (omega (arith, small 5, small 6, small 7)))
      (neither_of _ _ (lt-leb 16 (byte_at p 9 % 16) (fit refl).narrow)
      (neither_of _ _ (lt-leb 16 (byte_at p 9 / 16) (omega (arith, small 9)))
      (ap not (eq-eqb (byte_at p 9 % 16) (length (additions_of p true)) (fit refl).counts))))
  ack_narrow false fit = refl

  stamp_narrow : (at : ℕ) (timed : Bool) → both timed (leb (2 ^ 24) (sized timed (three_at p at))) ≡ false
  stamp_narrow at true = lt-leb (2 ^ 24) (three_at p at) (omega (arith, small at, small (at + 1), small (at + 2)))
  stamp_narrow at false = refl

  vector_narrow : (at : ℕ) (flag : Bool) → (flag ≡ true → VectorFits (cond flag (vector_at p at) no_vector) (coded_of p at flag))
      → both flag (vector_wide (cond flag (vector_at p at) no_vector) (length (coded_of p at flag))) ≡ false
  vector_narrow at true fit =
      neither_of _ _ (lt-leb 128 (byte_at p (at + 2) % 128) (fit refl).narrow)
      (neither_of _ _ (stamp_narrow (at + 3) (timed_at p at))
      (ap not (eq-eqb (byte_at p (at + 2) % 128) (length (coded_of p at true)) (fit refl).counts)))
  vector_narrow at false fit = refl

-- The datagram that is written of what d was read as.
module _ (d : List ℕ) (bytes : Bytes d) (facts : Found d) where
  abbrev p : List ℕ
  p = swapped d

  abbrev v : Values
  v = read_values p (end_of p)

  abbrev additions : List ℕ
  additions = read_additions p (end_of p)

  abbrev vector : List ℕ
  vector = read_vector p (end_of p)

  abbrev body : List ℕ
  body = read_body p (end_of p)

  abbrev written : List ℕ
  written = datagram_of v additions vector body

  small : Bytes p
  small = swapped_small d bytes

  fitting : Fits v additions vector
  fitting = fits p (end_of p) small facts.inside

  laid : Stands p 1 (packet_bytes v additions vector body ++ drop (end_of p) p)
  laid = stands p (end_of p) small facts.inside

  packet_end : end_of p ≡ 1 + length (packet_bytes v additions vector body)
  packet_end =
      omega (
        arith,
        laid.inside,
        length-append (packet_bytes v additions vector body) (drop (end_of p) p),
        length-drop (end_of p) p,
        facts.inside.ends,
      )

  pub not_longer : length written ≤ length d
  not_longer =
      omega (arith, datagram_length v additions vector body fitting, packet_end, facts.inside.ends, swapped_length d, facts.long)

  pub accepted_again : (room : ℕ) → length written ≤ room → 0 ≡ write_answer v additions vector body room
  unfolding values_of write_answer
  accepted_again room h =
      first_none
      ∙ first_skip _ _ _ (le-ltb room (length written) h)
      ∙ first_skip _ _ _ (le-ltb 1232 (length written) (omega (arith, not_longer, facts.short)))
      ∙ first_skip _ _ _ (vector_narrow p small (number_end p (flags_of p)) (vector_in (flags_of p)) fitting.vector_fits)
      ∙ first_skip _ _ _ (ack_narrow p small (ack_in (flags_of p)) fitting.ack_fits)
      ∙ first_skip _ _ _ (lt-leb 16 (word_at p 1 / 4096) (omega (arith, small 1, small 2)))
      ∙ first_skip _ _ _ facts.inside.single
      ∙ first_skip _ _ _ facts.inside.six

  -- Both datagrams read as the packet that was written, and hold the same bytes where it points.
  found_same : found d ≡ packet_for v additions vector body
  unfolding values_of
  found_same = packet_read_lem v additions vector body (drop (end_of p) p) fitting laid (end_of p) packet_end

  pub reads_again : read_of written ≡ Ok (Some (found d))
  reads_again = datagram_reads v additions vector body fitting (omega (arith, not_longer, facts.short)) ∙ ap read_as (sym found_same)

  pub bytes_again : (additions_in written (found d) ≡ additions_in d (found d))
      × (coded_in written (found d) ≡ coded_in d (found d)) × (body_in written (found d) ≡ body_in d (found d))
  unfolding part_of
  bytes_again =
      let before = points v additions vector body _ fitting laid in
      let after = points v additions vector body _ fitting (laid_out v additions vector body fitting) in
      rw (found_same, exchanged v additions vector body fitting) (
        after.additions_there ∙ sym before.additions_there,
        after.vector_there ∙ sym before.vector_there,
        after.body_there ∙ sym before.body_there,
      )
