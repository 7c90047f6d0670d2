-- What the tests of a write tell of the values: each fits its field.
use Prim.Native.Nat.{ℕ, ◌+◌, ◌^◌, ◌<◌}
use mathlib.Core.Bool.{Bool, true, false, not}
use mathlib.Core.List.{List, [], ◌∷◌, ◌++◌, append_assoc, append-nil}
use mathlib.Core.Path.{◌≡◌, refl}
use native.Mathlib.Omega.{arith}
use lib.ListN.{length, length-append}
use lib.Dec.{leb, eqb}
use borrow.Author.Tests.{leb-false, eqb-true, not-false}
use Rattle.wire.specs.declared.Ack.{Ack}
use Rattle.wire.specs.declared.Vector.{Vector}
use Rattle.wire.specs.declared.Values.{Values}
use Rattle.wire.specs.Flags.{ack_in, data_in, vector_in, aoa_in, overhead_in, delay_in, both}
use Rattle.wire.specs.Layout.{stamp_size}
use Rattle.wire.specs.Round.Tests.{neither}
use Rattle.wire.specs.Write.{given, word_bytes, ack_bytes, ack_wide, delay_bytes, vector_bytes, vector_wide, stamp_bytes, packet_bytes}
use Rattle.laying.specs.Halves.{front_bytes, back_bytes}

pub record AckFits (a : Ack) (n : ℕ) : Type 0 where
  pub time : a.time < 2 ^ 24
  pub count : a.count < 16
  pub scale : a.scale < 16
  pub same : a.count ≡ n

pub ack_fits_lem : (a : Ack) (n : ℕ) → ack_wide a n ≡ false → AckFits a n
ack_fits_lem a n h =
    let (t, h1) = neither (leb (2 ^ 24) a.time) _ h in
    let (k, h2) = neither (leb 16 a.count) _ h1 in
    let (s, m) = neither (leb 16 a.scale) (not (eqb a.count n)) h2 in
    record {
      time = leb-false (2 ^ 24) a.time t;
      count = leb-false 16 a.count k;
      scale = leb-false 16 a.scale s;
      same = eqb-true a.count n (not-false (eqb a.count n) m);
    }

pub record VectorFits (x : Vector) (n : ℕ) : Type 0 where
  pub size : x.size < 128
  pub time : both x.timed (leb (2 ^ 24) x.time) ≡ false
  pub same : x.size ≡ n

pub vector_fits_lem : (x : Vector) (n : ℕ) → vector_wide x n ≡ false → VectorFits x n
vector_fits_lem x n h =
    let (s, h1) = neither (leb 128 x.size) _ h in
    let (t, m) = neither (both x.timed (leb (2 ^ 24) x.time)) (not (eqb x.size n)) h1 in
    record {
      size = leb-false 128 x.size s;
      time = t;
      same = eqb-true x.size n (not-false (eqb x.size n) m);
    }

-- how long the payloads with bytes of their own are
pub ack_length : (a : Ack) (b : List ℕ) → length (ack_bytes a b) ≡ 7 + length b
ack_length a b = let l = length-append b [] in omega arith

pub stamp_length : (x : Vector) → length (stamp_bytes x) ≡ stamp_size x.timed
stamp_length x = go x.timed
  where
    go : (t : Bool) → length (stamp_bytes (record { base = x.base; size = x.size; timed = t; time = x.time; gap = x.gap })) ≡ stamp_size t
    go true = refl
    go false = refl

pub vector_length : (x : Vector) (b : List ℕ) → length (vector_bytes x b) ≡ 3 + stamp_size x.timed + length b
vector_length x b =
    let l = length-append b [] in
    let m = length-append (stamp_bytes x) (b ++ []) in
    let s = stamp_length x in
    omega arith

-- how long the two parts of a packet are
pub front_length : (v : Values) (a : List ℕ) → length (front_bytes v a)
    ≡ 2 + length (given (ack_in v.flags) (ack_bytes v.ack a)) + length (given (overhead_in v.flags) (v.overhead ∷ []))
    + length (given (delay_in v.flags) (delay_bytes v.delay)) + length (given (aoa_in v.flags) (word_bytes v.aoa))
unfolding front_bytes
front_length v a = simp length-append (omega arith)

pub back_length : (v : Values) (x b : List ℕ) → length (back_bytes v x b)
    ≡ length (given (data_in v.flags) (word_bytes v.number)) + length (given (vector_in v.flags) (vector_bytes v.vector x))
    + length (given (data_in v.flags) (word_bytes v.channel ++ b))
unfolding back_bytes
back_length v x b = simp length-append (omega arith)

pub packet_parts : (v : Values) (a x b : List ℕ) → packet_bytes v a x b ≡ front_bytes v a ++ back_bytes v x b
unfolding packet_bytes front_bytes back_bytes
packet_parts v a x b = simp (append_assoc, append-nil)
