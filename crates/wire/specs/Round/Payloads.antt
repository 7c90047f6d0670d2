-- The payloads of several fields, each written at a place, read there as they were.
use Rattle.std.specs.Prelude.{ℕ, ◌+◌, ◌*◌, ◌%◌, ◌/◌, ◌<◌, Bool, true, false, cond, List, [], ◌∷◌, ◌++◌, ◌≡◌, refl, length, take, drop, eqb}
use Rattle.std.proofs.Common.{append_assoc, append-nil, ◌∙◌, ap, arith, length-append, eq-eqb, ne_eqb}
use Rattle.wire.specs.declared.Ack.{Ack}
use Rattle.wire.specs.declared.Delay.{Delay}
use Rattle.wire.specs.declared.Vector.{Vector}
use Rattle.wire.specs.Frame.{byte_at, word_at, three_at}
use Rattle.wire.specs.Layout.{sized, ack_at, ack_size, delay_at, timed_at, vector_at, vector_size, stamp_size}
use Rattle.wire.specs.Write.{word_bytes, three_bytes, ack_bytes, delay_bytes, stamp_bytes, vector_bytes}
use Rattle.wire.specs.Same.{kept_vector}
use Rattle.wire.specs.Round.Stands.{Stands, byte_of, byte_reads, word_reads, three_reads, behind, behind_given, read_given, part_reads, as_well, given_length}

-- What reading needs of the two payloads with bytes of their own: a count that its bits hold, and that is those bytes' length.
pub record AckFits (a : Ack) (additions : List ℕ) : Type 0 where
  pub narrow : a.count < 16
  pub counts : a.count ≡ length additions

pub record VectorFits (x : Vector) (vector : List ℕ) : Type 0 where
  pub narrow : x.size < 128
  pub counts : x.size ≡ length vector

module _ {p : List ℕ} {at : ℕ} (q : List ℕ) where
  module _ (a : Ack) (additions : List ℕ) (fits : AckFits a additions) (s : Stands p at (ack_bytes a additions ++ q)) where
    pub ack_reads : ack_at p at ≡ a
    ack_reads =
        let c : byte_at p (at + 6) ≡ a.count + 16 * a.scale = byte_of 6 s in
        let l : a.count < 16 = fits.narrow in
        let t : three_at p (at + 2) ≡ a.time = three_reads a.time (behind (word_bytes a.number) _ 2 refl s) in
        let m : byte_at p (at + 6) % 16 ≡ a.count = omega arith in
        let d : byte_at p (at + 6) / 16 ≡ a.scale = omega arith in
        λ i. record { number = word_reads a.number s i; time = t i; gap = byte_of 5 s i; count = m i; scale = d i }

    pub ack_size_lem : ack_size p at ≡ length (ack_bytes a additions)
    ack_size_lem = rw (append-nil additions) (omega (arith, byte_of 6 s, fits))

    pub additions_read : take a.count (drop (at + 7) p) ≡ additions
    additions_read =
        part_reads additions q a.count fits.counts
        (as_well (ap (λ (l : List ℕ). l ++ q) (append-nil additions)) (behind (take 7 (ack_bytes a additions)) _ 7 refl s))

  pub delay_reads : (y : Delay) → Stands p at (delay_bytes y ++ q) → delay_at p at ≡ y
  delay_reads y s =
      let t : word_at p (at + 1) ≡ y.timeout = word_reads y.timeout (behind (y.most ∷ []) _ 1 refl s) in
      λ i. record { most = byte_reads s i; timeout = t i }

  module _ (x : Vector) (vector : List ℕ) (fits : VectorFits x vector) (s : Stands p at (vector_bytes x vector ++ q)) where
    -- the byte that holds the size and whether a time stamp is present
    bits : (t : Bool) (n b : ℕ) → n < 128 → b ≡ n + 128 * cond t 1 0 → (eqb (b / 128 % 2) 1 ≡ t) × (b % 128 ≡ n)
    bits true n b l e = (eq-eqb (b / 128 % 2) 1 (omega arith), omega arith)
    bits false n b l e = (ne_eqb (b / 128 % 2) 1 (omega arith), omega arith)

    pub vector_timed : timed_at p at ≡ x.timed
    vector_timed = (bits x.timed x.size (byte_at p (at + 2)) fits.narrow (byte_of 2 s)).0

    sized_so : byte_at p (at + 2) % 128 ≡ x.size
    sized_so = (bits x.timed x.size (byte_at p (at + 2)) fits.narrow (byte_of 2 s)).1

    -- the time stamp, behind which the vector's bytes stand
    stamp : Stands p (at + 3) (stamp_bytes x ++ (vector ++ q))
    stamp =
        as_well (append_assoc (stamp_bytes x) (vector ++ []) q ∙ ap (λ (l : List ℕ). stamp_bytes x ++ (l ++ q)) (append-nil vector))
        (behind (take 3 (vector_bytes x vector)) _ 3 refl s)

    pub vector_reads : vector_at p at ≡ kept_vector x
    vector_reads =
        let t : sized x.timed (three_at p (at + 3)) ≡ sized x.timed x.time =
        read_given x.timed 0 _ _ (λ t w. three_reads x.time w) stamp in
        let e : at + 6 ≡ at + 3 + 3 = omega arith in
        let g : sized x.timed (byte_at p (at + 6)) ≡ sized x.timed x.gap =
        read_given x.timed 0 _ _ (λ t w. ap (byte_at p) e ∙ byte_of 3 w) stamp in
        λ i. record {
          base = word_reads x.base s i;
          size = sized_so i;
          timed = vector_timed i;
          time = (ap (λ (b : Bool). sized b (three_at p (at + 3))) vector_timed ∙ t) i;
          gap = (ap (λ (b : Bool). sized b (byte_at p (at + 6))) vector_timed ∙ g) i;
        }

    pub vector_size_lem : vector_size p at ≡ length (vector_bytes x vector)
    vector_size_lem =
        rw (vector_timed, append-nil vector, length-append (stamp_bytes x) vector, given_length x.timed (three_bytes x.time ++ (x.gap ∷ [])))
        (omega (arith, sized_so, fits.counts))

    pub vector_read : take x.size (drop (at + 3 + stamp_size x.timed) p) ≡ vector
    vector_read = part_reads vector q x.size fits.counts (behind_given x.timed _ _ 4 (λ t w. refl) stamp)
