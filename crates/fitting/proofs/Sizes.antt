-- How long packets and datagrams are.
use Prim.Native.Nat.{ℕ, ◌+◌, ◌-◌, ◌≤◌, ◌<◌}
use mathlib.Core.Bool.{Bool, true, false}
use mathlib.Core.List.{List, [], ◌∷◌, ◌++◌}
use mathlib.Core.Path.{◌≡◌, refl, sym, ◌∙◌, ap}
use native.Mathlib.Omega.{arith}
use lib.ListN.{length, length-append}
use Rattle.wire.specs.declared.Values.{Values}
use Rattle.wire.specs.Frame.{prefix_for}
use Rattle.wire.specs.declared.Ack.{Ack}
use Rattle.wire.specs.declared.Vector.{Vector}
use Rattle.wire.specs.Flags.{ack_in, data_in, vector_in, aoa_in, overhead_in, delay_in, both}
use Rattle.wire.specs.Layout.{sized, stamp_size}
use Rattle.wire.specs.Write.{given, word_bytes, ack_bytes, ack_wide, vector_wide, delay_bytes, vector_bytes, packet_bytes, datagram_of}
use Rattle.laying.specs.Halves.{front_bytes, back_bytes}
use Rattle.wire.specs.Round.Framing.{framed_length}
use Rattle.laying.proofs.Widths.{ack_fits_lem, vector_fits_lem, ack_length, vector_length, front_length, back_length, packet_parts}

-- bytes where they are flagged, by their length
given_size : (b : Bool) (x : List ℕ) (n : ℕ) → length x ≡ n → length (given b x) ≡ sized b n
given_size true x n e = e
given_size false x n e = refl

-- the sizes of the payloads make the packet's
pub packet_sum : (v : Values) (a x b : List ℕ) (i o d w k q : Bool) (s1 s2 s3 s4 s5 s6 s7 t : ℕ)
    → i ≡ ack_in v.flags → o ≡ overhead_in v.flags → d ≡ delay_in v.flags → w ≡ aoa_in v.flags → k ≡ data_in v.flags
    → q ≡ vector_in v.flags → t ≡ stamp_size v.vector.timed
    → s1 ≡ sized i (7 + length a) → s2 ≡ sized o 1 → s3 ≡ sized d 3 → s4 ≡ sized w 2 → s5 ≡ sized k 2
    → s6 ≡ sized q (3 + t + length x) → s7 ≡ sized k (2 + length b)
    → 2 + s1 + s2 + s3 + s4 + s5 + s6 + s7 ≡ length (packet_bytes v a x b)
packet_sum v a x b i o d w k q s1 s2 s3 s4 s5 s6 s7 t ei eo ed ew ek eq et e1 e2 e3 e4 e5 e6 e7 =
    let p1 : s1 ≡ length (given (ack_in v.flags) (ack_bytes v.ack a)) =
    e1 ∙ ap (λ (f : Bool). sized f (7 + length a)) ei ∙ sym (given_size (ack_in v.flags) (ack_bytes v.ack a) _ (ack_length v.ack a)) in
    let p2 : s2 ≡ length (given (overhead_in v.flags) (v.overhead ∷ [])) =
    e2 ∙ ap (λ (f : Bool). sized f 1) eo ∙ sym (given_size (overhead_in v.flags) (v.overhead ∷ []) 1 refl) in
    let p3 : s3 ≡ length (given (delay_in v.flags) (delay_bytes v.delay)) =
    e3 ∙ ap (λ (f : Bool). sized f 3) ed ∙ sym (given_size (delay_in v.flags) (delay_bytes v.delay) 3 refl) in
    let p4 : s4 ≡ length (given (aoa_in v.flags) (word_bytes v.aoa)) =
    e4 ∙ ap (λ (f : Bool). sized f 2) ew ∙ sym (given_size (aoa_in v.flags) (word_bytes v.aoa) 2 refl) in
    let p5 : s5 ≡ length (given (data_in v.flags) (word_bytes v.number)) =
    e5 ∙ ap (λ (f : Bool). sized f 2) ek ∙ sym (given_size (data_in v.flags) (word_bytes v.number) 2 refl) in
    let p6 : s6 ≡ length (given (vector_in v.flags) (vector_bytes v.vector x)) =
    e6 ∙ ap (λ (f : Bool). sized f (3 + t + length x)) eq ∙ ap (λ (n : ℕ). sized (vector_in v.flags) (3 + n + length x)) et
    ∙ sym (given_size (vector_in v.flags) (vector_bytes v.vector x) _ (vector_length v.vector x)) in
    let l : length (word_bytes v.channel ++ b) ≡ 2 + length b = omega arith in
    let p7 : s7 ≡ length (given (data_in v.flags) (word_bytes v.channel ++ b)) =
    e7 ∙ ap (λ (f : Bool). sized f (2 + length b)) ek ∙ sym (given_size (data_in v.flags) (word_bytes v.channel ++ b) _ l) in
    let f = front_length v a in
    let g = back_length v x b in
    let h = ap length (packet_parts v a x b) ∙ length-append (front_bytes v a) (back_bytes v x b) in
    omega arith

-- a short packet is padded to 7
pub datagram_length : (v : Values) (a x b : List ℕ)
    → length (datagram_of v a x b) ≡ 1 + length (packet_bytes v a x b) + (7 - length (packet_bytes v a x b))
unfolding datagram_of
datagram_length v a x b = framed_length (prefix_for (packet_bytes v a x b)) (packet_bytes v a x b) ∙ omega arith

-- a body that is too long makes a datagram that is too long
pub body_long : (v : Values) (a x b : List ℕ) (n : ℕ) → n ≡ sized (data_in v.flags) (length b) → 1232 < n → 1232 < length (datagram_of v a x b)
body_long v a x b n e h = go (data_in v.flags) refl e
  where
    go : (f : Bool) → data_in v.flags ≡ f → n ≡ sized f (length b) → 1232 < length (datagram_of v a x b)
    go true t q =
        let l : length (word_bytes v.channel ++ b) ≡ 2 + length b = omega arith in
        let m = given_size (data_in v.flags) (word_bytes v.channel ++ b) _ l ∙ ap (λ (f : Bool). sized f (2 + length b)) t in
        let g = back_length v x b in
        let k = ap length (packet_parts v a x b) ∙ length-append (front_bytes v a) (back_bytes v x b) in
        let d = datagram_length v a x b in
        omega arith
    go false t q = absurd (omega arith)

pub size_is : (v : Values) (a x b : List ℕ) (k n : ℕ) → k ≡ length (packet_bytes v a x b) → n ≡ 1 + k + (7 - k) → n ≡ length (datagram_of v a x b)
size_is v a x b k n e q = let d = datagram_length v a x b in omega arith

-- bytes of their own that are flagged are few
pub ack_few : (i : Bool) (a : Ack) (n : ℕ) → both i (ack_wide a n) ≡ false → sized i n ≤ 1232
ack_few true a n h = let f = ack_fits_lem a n h in omega arith
ack_few false a n h = omega arith

pub vector_few : (i : Bool) (x : Vector) (n : ℕ) → both i (vector_wide x n) ≡ false → sized i n ≤ 1232
vector_few true x n h = let f = vector_fits_lem x n h in omega arith
vector_few false x n h = omega arith

pub packet_length : (v : Values) (a x b : List ℕ) → length (packet_bytes v a x b) ≡ length (front_bytes v a) + length (back_bytes v x b)
packet_length v a x b = ap length (packet_parts v a x b) ∙ length-append (front_bytes v a) (back_bytes v x b)
