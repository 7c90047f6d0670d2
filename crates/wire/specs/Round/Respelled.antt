-- What was read of a list of bytes, written, gives the packet's bytes back, from the header up to the packet's end.
use Rattle.std.specs.Prelude.{ℕ, ◌+◌, ◌-◌, ◌*◌, ◌%◌, ◌≤◌, Bool, true, false, cond, not, List, [], ◌∷◌, ◌++◌, ◌≡◌, length, take, ltb}
use Rattle.std.proofs.Math.Path.{refl, sym, ap}
use Rattle.std.proofs.Common.{◌∙◌, length-drop, length-take-le, ltb-false}
use native.Mathlib.Omega.{arith}
use Rattle.std.proofs.Math.ListN.{drop}
use Rattle.wire.specs.declared.Values.{Values}
use Rattle.wire.specs.Frame.{byte_at, word_at}
use Rattle.wire.specs.Flags.{ack_in, data_in, vector_in, aoa_in, overhead_in, delay_in, both, outside}
use Rattle.wire.specs.Layout.{flags_of, logwindow_of, sized, ack_at, ack_size, delay_at, stamp_size, timed_at, vector_at, vector_size, ack_end, overhead_end, delay_end, aoa_end, number_end, vector_end, channel_end, no_ack, no_delay, no_vector, values_of}
use Rattle.wire.specs.Write.{word_bytes, given, ack_bytes, delay_bytes, vector_bytes, header_bytes, packet_bytes}
use Rattle.wire.specs.Same.{Bytes}
use Rattle.wire.specs.Round.Stands.{Stands}
use Rattle.wire.specs.Round.Payloads.{AckFits, VectorFits}
use Rattle.wire.specs.Round.Chain.{Fits, packet_payloads, from_ack, from_overhead, from_delay, from_aoa, from_number, from_vector, from_channel}
use Rattle.wire.specs.Round.Spelled.{after, byte_spelled, word_spelled, part_spelled, ack_spelled, delay_spelled, vector_spelled, given_spelled}

-- What the tests of reading leave: the payloads end no later than the packet does, and with it where there is no body.
pub record Inside (p : List ℕ) (f end : ℕ) : Type 0 where
  pub six : outside f ≡ false
  pub single : both (ack_in f) (vector_in f) ≡ false
  pub payloads : channel_end p f ≤ end
  pub whole : both (not (data_in f)) (ltb (channel_end p f) end) ≡ false
  pub ends : end ≤ length p

-- The bytes that are read where they are flagged.
abbrev pub additions_of : List ℕ → Bool → List ℕ
additions_of p ack = take (cond ack (ack_at p 3) no_ack).count (drop (sized ack 10) p)

abbrev pub coded_of : List ℕ → ℕ → Bool → List ℕ
coded_of p at flag = take (cond flag (vector_at p at) no_vector).size (drop (sized flag (at + 3 + stamp_size (timed_at p at))) p)

abbrev pub body_of : List ℕ → ℕ → ℕ → Bool → List ℕ
body_of p at end flag = take (sized flag (end - at)) (drop (sized flag at) p)

-- The body goes up to the packet's end.
body_spelled : (p : List ℕ) (small : Bytes p) (at end : ℕ) (flag : Bool) → at ≤ end → both (not flag) (ltb at end) ≡ false
    → drop at p ≡ given flag (body_of p at end flag) ++ drop end p
body_spelled p small at end true h e = part_spelled p small at (end - at) end (omega arith)
body_spelled p small at end false h e =
    let same : at ≡ end = omega (arith, ltb-false at end e) in
    ap (λ (k : ℕ). drop k p) same

-- What is read counts its bytes.
ack_counts : (p : List ℕ) (flag : Bool) → 3 + sized flag (ack_size p 3) ≤ length p → AckFits (cond flag (ack_at p 3) no_ack) (additions_of p flag)
ack_counts p true h =
    record { narrow = omega arith; counts = sym (length-take-le (byte_at p 9 % 16) (drop 10 p) (rw (length-drop 10 p) (omega arith))) }
ack_counts p false h = record { narrow = omega arith; counts = refl }

vector_counts : (p : List ℕ) (at : ℕ) (flag : Bool) → at + sized flag (vector_size p at) ≤ length p
    → VectorFits (cond flag (vector_at p at) no_vector) (coded_of p at flag)
vector_counts p at true h =
    let place : ℕ = at + 3 + stamp_size (timed_at p at) in
    record { narrow = omega arith; counts = sym (length-take-le (byte_at p (at + 2) % 128) (drop place p) (rw (length-drop place p) (omega arith))) }
vector_counts p at false h = record { narrow = omega arith; counts = refl }

-- Every payload ends inside.
record Ends (p : List ℕ) (f : ℕ) : Type 0 where
  header : 3 ≤ length p
  ack : ack_end p f ≤ length p
  overhead : overhead_end p f ≤ length p
  delay : delay_end p f ≤ length p
  aoa : aoa_end p f ≤ length p
  number : number_end p f ≤ length p
  vector : vector_end p f ≤ length p
  channel : channel_end p f ≤ length p

-- What is read of p, whose packet goes up to end.
module _ (p : List ℕ) (end : ℕ) where
  abbrev f : ℕ
  f = flags_of p

  abbrev pub read_values : Values
  read_values = values_of p f

  abbrev pub read_additions : List ℕ
  read_additions = additions_of p (ack_in f)

  abbrev pub read_vector : List ℕ
  read_vector = coded_of p (number_end p f) (vector_in f)

  abbrev pub read_body : List ℕ
  read_body = body_of p (channel_end p f) end (data_in f)

  module _ (small : Bytes p) (inside : Inside p (flags_of p) end) where
    ends : Ends p f
    unfolding ack_end overhead_end delay_end aoa_end number_end vector_end channel_end
    ends = omega (arith, inside.payloads, inside.ends)

    -- from each payload on, the last first
    from_body : drop (channel_end p f) p ≡ given (data_in f) read_body ++ drop end p
    from_body = body_spelled p small (channel_end p f) end (data_in f) inside.payloads inside.whole

    from_channel_lem : drop (vector_end p f) p ≡ from_channel read_values read_body (drop end p)
    unfolding values_of channel_end
    from_channel_lem =
        given_spelled p small (vector_end p f) (data_in f) (λ t. word_bytes (sized t (word_at p (vector_end p f)))) 2
        (word_spelled p small (vector_end p f) _ refl) ends.channel
        ∙ after (given (data_in f) (word_bytes read_values.channel)) from_body

    from_vector_lem : drop (number_end p f) p ≡ from_vector read_values read_vector read_body (drop end p)
    unfolding values_of vector_end
    from_vector_lem =
        given_spelled p small (number_end p f) (vector_in f)
        (λ t. vector_bytes (cond t (vector_at p (number_end p f)) no_vector) (coded_of p (number_end p f) t)) (vector_size p (number_end p f))
        (vector_spelled p small (number_end p f)) ends.vector
        ∙ after (given (vector_in f) (vector_bytes read_values.vector read_vector)) from_channel_lem

    from_number_lem : drop (aoa_end p f) p ≡ from_number read_values read_vector read_body (drop end p)
    unfolding values_of number_end
    from_number_lem =
        given_spelled p small (aoa_end p f) (data_in f) (λ t. word_bytes (sized t (word_at p (aoa_end p f)))) 2
        (word_spelled p small (aoa_end p f) _ refl) ends.number
        ∙ after (given (data_in f) (word_bytes read_values.number)) from_vector_lem

    from_aoa_lem : drop (delay_end p f) p ≡ from_aoa read_values read_vector read_body (drop end p)
    unfolding values_of aoa_end
    from_aoa_lem =
        given_spelled p small (delay_end p f) (aoa_in f) (λ t. word_bytes (sized t (word_at p (delay_end p f)))) 2
        (word_spelled p small (delay_end p f) _ refl) ends.aoa
        ∙ after (given (aoa_in f) (word_bytes read_values.aoa)) from_number_lem

    from_delay_lem : drop (overhead_end p f) p ≡ from_delay read_values read_vector read_body (drop end p)
    unfolding values_of delay_end
    from_delay_lem =
        given_spelled p small (overhead_end p f) (delay_in f) (λ t. delay_bytes (cond t (delay_at p (overhead_end p f)) no_delay)) 3
        (delay_spelled p small (overhead_end p f)) ends.delay
        ∙ after (given (delay_in f) (delay_bytes read_values.delay)) from_aoa_lem

    from_overhead_lem : drop (ack_end p f) p ≡ from_overhead read_values read_vector read_body (drop end p)
    unfolding values_of overhead_end
    from_overhead_lem =
        given_spelled p small (ack_end p f) (overhead_in f) (λ t. sized t (byte_at p (ack_end p f)) ∷ []) 1
        (byte_spelled p small (ack_end p f) _ refl) ends.overhead
        ∙ after (given (overhead_in f) (read_values.overhead ∷ [])) from_delay_lem

    from_ack_lem : drop 3 p ≡ from_ack read_values read_additions read_vector read_body (drop end p)
    unfolding values_of ack_end
    from_ack_lem =
        given_spelled p small 3 (ack_in f) (λ t. ack_bytes (cond t (ack_at p 3) no_ack) (additions_of p t)) (ack_size p 3) (ack_spelled p small 3) ends.ack
        ∙ after (given (ack_in f) (ack_bytes read_values.ack read_additions)) from_overhead_lem

    respelled : drop 1 p ≡ packet_bytes read_values read_additions read_vector read_body ++ drop end p
    unfolding values_of
    respelled =
        let w : word_at p 1 ≡ f + 4096 * logwindow_of p = omega arith in
        word_spelled p small 1 3 refl ends.header
        ∙ ap (λ (n : ℕ). word_bytes n ++ drop 3 p) w
        ∙ after (header_bytes read_values) from_ack_lem
        ∙ sym (packet_payloads read_values read_additions read_vector read_body (drop end p))

    pub stands : Stands p 1 (packet_bytes read_values read_additions read_vector read_body ++ drop end p)
    stands = record { bytes = respelled; inside = omega (arith, ap length respelled, length-drop 1 p, ends.header) }

    pub fits : Fits read_values read_additions read_vector
    unfolding values_of ack_end vector_end
    fits =
        record {
          inside = inside.six;
          single = inside.single;
          ack_fits = λ h. ack_counts p (ack_in f) ends.ack;
          vector_fits = λ h. vector_counts p (number_end p f) (vector_in f) ends.vector;
        }
