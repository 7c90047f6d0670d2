-- A packet's bytes at place 1 of a datagram, whatever stands behind them, read as what they were written of, payload by payload.
use Rattle.std.specs.Prelude.{ℕ, ◌+◌, ◌-◌, ◌*◌, ◌<◌, Bool, true, false, cond, List, [], ◌∷◌, ◌++◌, ◌≡◌, length, take, drop}
use Rattle.std.proofs.Common.{append_assoc, arith, eqb-true}
use Rattle.std.proofs.Math.Path.{refl, ap₂}
use Rattle.std.proofs.Math.ListN.{length-append}
use Rattle.std.proofs.lemmas.Bool.{not-false}
use Rattle.wire.specs.declared.Ack.{Ack}
use Rattle.wire.specs.declared.Vector.{Vector}
use Rattle.wire.specs.declared.Values.{Values}
use Rattle.wire.specs.declared.Packet.{Packet}
use Rattle.wire.specs.Flags.{ack_in, data_in, vector_in, aoa_in, overhead_in, delay_in, both, outside, six_of}
use Rattle.wire.specs.Layout.{flags_of, logwindow_of, sized, stamp_size, timed_at, ack_size, vector_size, ack_end, overhead_end, delay_end, aoa_end, number_end, vector_end, channel_end, no_ack, no_delay, no_vector, values_of, packet_of}
use Rattle.wire.specs.Write.{word_bytes, given, ack_bytes, delay_bytes, vector_bytes, header_bytes, packet_bytes}
use Rattle.wire.specs.Same.{kept_of, kept_vector}
use Rattle.wire.specs.Round.Stands.{Stands, byte_reads, word_reads, behind, as_well, read_given, behind_given, part_given, part_reads}
use Rattle.wire.specs.Round.Payloads.{AckFits, VectorFits, ack_reads, ack_size_lem, additions_read, delay_reads, vector_timed, vector_reads, vector_size_lem, vector_read}

-- The payloads from each on, with the rest that stands behind the packet.
abbrev pub from_channel : Values → List ℕ → List ℕ → List ℕ
from_channel v body rest = given (data_in v.flags) (word_bytes v.channel) ++ (given (data_in v.flags) body ++ rest)

abbrev pub from_vector : Values → List ℕ → List ℕ → List ℕ → List ℕ
from_vector v vector body rest = given (vector_in v.flags) (vector_bytes v.vector vector) ++ from_channel v body rest

abbrev pub from_number : Values → List ℕ → List ℕ → List ℕ → List ℕ
from_number v vector body rest = given (data_in v.flags) (word_bytes v.number) ++ from_vector v vector body rest

abbrev pub from_aoa : Values → List ℕ → List ℕ → List ℕ → List ℕ
from_aoa v vector body rest = given (aoa_in v.flags) (word_bytes v.aoa) ++ from_number v vector body rest

abbrev pub from_delay : Values → List ℕ → List ℕ → List ℕ → List ℕ
from_delay v vector body rest = given (delay_in v.flags) (delay_bytes v.delay) ++ from_aoa v vector body rest

abbrev pub from_overhead : Values → List ℕ → List ℕ → List ℕ → List ℕ
from_overhead v vector body rest = given (overhead_in v.flags) (v.overhead ∷ []) ++ from_delay v vector body rest

abbrev pub from_ack : Values → List ℕ → List ℕ → List ℕ → List ℕ → List ℕ
from_ack v additions vector body rest = given (ack_in v.flags) (ack_bytes v.ack additions) ++ from_overhead v vector body rest

given_append : (flag : Bool) (a b : List ℕ) → given flag (a ++ b) ≡ given flag a ++ given flag b
given_append true a b = refl
given_append false a b = refl

pub packet_payloads : (v : Values) (additions vector body rest : List ℕ)
    → packet_bytes v additions vector body ++ rest ≡ header_bytes v ++ from_ack v additions vector body rest
unfolding packet_bytes
packet_payloads v additions vector body rest = simp (given_append, append_assoc)

-- What reading needs of the values: no flag but the six, not both vectors, and counts that count.
pub record Fits (v : Values) (additions vector : List ℕ) : Type 0 where
  pub inside : outside v.flags ≡ false
  pub single : both (ack_in v.flags) (vector_in v.flags) ≡ false
  pub ack_fits : ack_in v.flags ≡ true → AckFits v.ack additions
  pub vector_fits : vector_in v.flags ≡ true → VectorFits v.vector vector

-- The six flags leave LogWindowSize its bits.
six_small : (f : ℕ) → outside f ≡ false → f < 4096
unfolding outside six_of
six_small f h = omega (arith, eqb-true f (six_of f) (not-false _ h))

-- A field of what stands only where it is flagged.
field_of : {A : Type 0} (g : A → ℕ) (flag : Bool) (x y : A) → g (cond flag x y) ≡ cond flag (g x) (g y)
field_of g true x y = refl
field_of g false x y = refl

-- A place is told by what stands from there on.
place_told : {p : List ℕ} {at : ℕ} (packet t rest : List ℕ) → Stands p 1 (packet ++ rest) → Stands p at (t ++ rest)
    → at ≡ 1 + length packet - length t
place_told packet t rest s w = omega (arith, s.inside, w.inside, length-append packet rest, length-append t rest)

-- Where the vector's payload and the body stand: what is not behind them lies before them.
abbrev pub vector_place : Values → List ℕ → List ℕ → List ℕ → ℕ
vector_place v additions vector body = 1 + length (packet_bytes v additions vector body) - length (from_vector v vector body [])

abbrev pub body_place : Values → List ℕ → List ℕ → List ℕ → ℕ
body_place v additions vector body = 1 + length (packet_bytes v additions vector body) - length (given (data_in v.flags) body)

-- The packet that is read of what was written.
unfoldable pub packet_for : Values → List ℕ → List ℕ → List ℕ → Packet
packet_for v additions vector body =
    record {
      values = kept_of v;
      additions = sized (ack_in v.flags) 10;
      vector = sized (vector_in v.flags) (vector_place v additions vector body + 3 + stamp_size v.vector.timed);
      body = sized (data_in v.flags) (body_place v additions vector body);
      bytes = sized (data_in v.flags) (length body);
    }

-- The bytes to which a packet points in p.
pub record Points (p : List ℕ) (packet : Packet) (additions vector body : List ℕ) : Type 0 where
  pub additions_there : take packet.values.ack.count (drop packet.additions p) ≡ additions
  pub vector_there : take packet.values.vector.size (drop packet.vector p) ≡ vector
  pub body_there : take packet.bytes (drop packet.body p) ≡ body

module _ {p : List ℕ} (v : Values) (additions vector body rest : List ℕ) (fits : Fits v additions vector)
    (laid : Stands p 1 (packet_bytes v additions vector body ++ rest)) where
  abbrev f : ℕ
  f = v.flags

  header : Stands p 1 (header_bytes v ++ from_ack v additions vector body rest)
  header = as_well (packet_payloads v additions vector body rest) laid

  pub flags_read : flags_of p ≡ f
  flags_read = omega (arith, word_reads (f + 4096 * v.logwindow) header, six_small f fits.inside)

  logwindow_read : logwindow_of p ≡ v.logwindow
  logwindow_read = omega (arith, word_reads (f + 4096 * v.logwindow) header, six_small f fits.inside)

  -- each payload stands where reading looks for it
  at_ack : Stands p 3 (from_ack v additions vector body rest)
  at_ack = behind (header_bytes v) _ 2 refl header

  at_overhead : Stands p (ack_end p f) (from_overhead v vector body rest)
  unfolding ack_end
  at_overhead = behind_given (ack_in f) _ _ (ack_size p 3) (λ h s. ack_size_lem _ v.ack additions (fits.ack_fits h) s) at_ack

  at_delay : Stands p (overhead_end p f) (from_delay v vector body rest)
  unfolding overhead_end
  at_delay = behind_given (overhead_in f) _ _ 1 (λ h s. refl) at_overhead

  at_aoa : Stands p (delay_end p f) (from_aoa v vector body rest)
  unfolding delay_end
  at_aoa = behind_given (delay_in f) _ _ 3 (λ h s. refl) at_delay

  at_number : Stands p (aoa_end p f) (from_number v vector body rest)
  unfolding aoa_end
  at_number = behind_given (aoa_in f) _ _ 2 (λ h s. refl) at_aoa

  at_vector : Stands p (number_end p f) (from_vector v vector body rest)
  unfolding number_end
  at_vector = behind_given (data_in f) _ _ 2 (λ h s. refl) at_number

  at_channel : Stands p (vector_end p f) (from_channel v body rest)
  unfolding vector_end
  at_channel =
      behind_given (vector_in f) _ _ (vector_size p (number_end p f)) (λ h s. vector_size_lem _ v.vector vector (fits.vector_fits h) s) at_vector

  pub at_body : Stands p (channel_end p f) (given (data_in f) body ++ rest)
  unfolding channel_end
  at_body = behind_given (data_in f) _ _ 2 (λ h s. refl) at_channel

  -- what is read at those places
  values_read : values_of p f ≡ kept_of v
  unfolding values_of
  values_read =
      let ack = read_given (ack_in f) no_ack _ _ (λ h s. ack_reads _ v.ack additions (fits.ack_fits h) s) at_ack in
      let overhead = read_given (overhead_in f) 0 _ _ (λ h s. byte_reads s) at_overhead in
      let delay = read_given (delay_in f) no_delay _ _ (λ h s. delay_reads _ v.delay s) at_delay in
      let aoa = read_given (aoa_in f) 0 _ _ (λ h s. word_reads v.aoa s) at_aoa in
      let number = read_given (data_in f) 0 _ _ (λ h s. word_reads v.number s) at_number in
      let coded = read_given (vector_in f) no_vector _ _ (λ h s. vector_reads _ v.vector vector (fits.vector_fits h) s) at_vector in
      let channel = read_given (data_in f) 0 _ _ (λ h s. word_reads v.channel s) at_channel in
      λ i. record {
        flags = f;
        logwindow = logwindow_read i;
        ack = ack i;
        overhead = overhead i;
        delay = delay i;
        aoa = aoa i;
        number = number i;
        vector = coded i;
        channel = channel i;
      }

  vector_place_lem : number_end p f ≡ vector_place v additions vector body
  vector_place_lem = place_told (packet_bytes v additions vector body) (from_vector v vector body []) rest laid (as_well (simp append_assoc) at_vector)

  body_place_lem : channel_end p f ≡ body_place v additions vector body
  body_place_lem = place_told (packet_bytes v additions vector body) (given (data_in f) body) rest laid at_body

  pub packet_read_lem : (end : ℕ) → end ≡ 1 + length (packet_bytes v additions vector body)
      → packet_of p f end ≡ packet_for v additions vector body
  unfolding packet_of packet_for
  packet_read_lem end e =
      let coded : sized (vector_in f) (number_end p f + 3 + stamp_size (timed_at p (number_end p f)))
      ≡ sized (vector_in f) (vector_place v additions vector body + 3 + stamp_size v.vector.timed) =
      read_given (vector_in f) 0 _ _
      (λ h s. ap₂ (λ (n : ℕ) (b : Bool). n + 3 + stamp_size b) vector_place_lem (vector_timed _ v.vector vector (fits.vector_fits h) s))
      at_vector in
      let bytes : sized (data_in f) (end - channel_end p f) ≡ sized (data_in f) (length body) =
      read_given (data_in f) 0 _ _
      (λ h s. omega (arith, s.inside, laid.inside, length-append body rest, length-append (packet_bytes v additions vector body) rest))
      at_body in
      λ i. record {
        values = values_read i;
        additions = sized (ack_in f) 10;
        vector = coded i;
        body = sized (data_in f) (body_place_lem i);
        bytes = bytes i;
      }

  pub points : Points p (packet_for v additions vector body) (given (ack_in f) additions) (given (vector_in f) vector) (given (data_in f) body)
  unfolding packet_for
  points =
      record {
        additions_there =
            rw (field_of (λ (a : Ack). a.count) (ack_in f) v.ack no_ack)
            (part_given (ack_in f) _ _ v.ack.count 10 additions
            (λ h s. additions_read _ v.ack additions (fits.ack_fits h) s) at_ack);
        vector_there =
            rw (field_of (λ (x : Vector). x.size) (vector_in f) (kept_vector v.vector) no_vector)
            (part_given (vector_in f) _ _ v.vector.size _ vector
            (λ h s. rw (← vector_place_lem) (vector_read _ v.vector vector (fits.vector_fits h) s)) at_vector);
        body_there =
            part_given (data_in f) _ _ (length body) _ body (λ h s. rw (← body_place_lem) (part_reads body rest (length body) refl s)) at_body;
      }
