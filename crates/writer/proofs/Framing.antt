-- The frame of a datagram that was laid whole and then exchanged.
use Prim.Native.Nat.{ℕ, zero, suc, ◌+◌, ◌-◌, ◌*◌, ◌≤◌, ◌<◌}
use mathlib.Core.Bool.{cond}
use mathlib.Core.List.{List, [], ◌∷◌, ◌++◌, append_assoc, append-nil}
use mathlib.Core.Path.{◌≡◌, refl, sym, ◌∙◌, ap}
use native.Mathlib.Omega.{arith}
use lib.Dec.{ltb}
use lib.ListN.{length, get_or, set, take, drop, replicate, length-set, length-append, length-replicate, get_or-append}
use lib.Seq.{set-append_left}
use Rattle.common.specs.Put.{put_front, joined}
use Rattle.common.specs.Laid.{Laid}
use Rattle.wire.specs.declared.Values.{Values}
use Rattle.wire.specs.Frame.{swapped, framed, prefix_for, padded}
use Rattle.wire.specs.Write.{packet_bytes, datagram_of}
use Rattle.laying.specs.Halves.{front_bytes, back_bytes}
use Rattle.wire.specs.Round.Framing.{swapped_length}
use Rattle.laying.proofs.Widths.{packet_parts}
use Rattle.fitting.proofs.Sizes.{packet_length}

pub take_zeros : (n m : ℕ) → n ≤ m → take n (replicate {A = ℕ} m 0) ≡ replicate n 0
take_zeros zero m h = refl
take_zeros (suc n) zero h = absurd (omega arith)
take_zeros (suc n) (suc m) h = ap (λ (l : List ℕ). 0 ∷ l) (take_zeros n m (omega arith))

-- the exchange stays within the first eight bytes
swapped_append : (q t : List ℕ) → 8 ≤ length q → swapped (q ++ t) ≡ swapped q ++ t
unfolding swapped
swapped_append q t h =
    let e7 : get_or (q ++ t) 7 0 ≡ get_or q 7 0 = get_or-append q t 0 7 (omega arith) in
    let e0 : get_or (q ++ t) 0 0 ≡ get_or q 0 0 = get_or-append q t 0 0 (omega arith) in
    let l : 7 < length (set q 0 (get_or q 7 0)) = simp length-set (omega arith) in
    rw (e7, e0, set-append_left q t 0 (get_or q 7 0) (omega arith)) (set-append_left (set q 0 (get_or q 7 0)) t 7 (get_or q 0 0) l)

pub laid_swapped : (d q e f : List ℕ) (r : ℕ) → 8 ≤ length q → Laid d 0 q e r → f ≡ swapped e → Laid d 0 (swapped q) f r
laid_swapped d q e f r h x w =
    record {
      bytes =
          w ∙ ap swapped (x.bytes ∙ put_front d q) ∙ swapped_append q (drop (length q) d) h
          ∙ sym (put_front d (swapped q) ∙ ap (λ (n : ℕ). swapped q ++ drop n d) (swapped_length q));
      next = x.next ∙ ap (λ (n : ℕ). 0 + n) (sym (swapped_length q));
    }

-- prefix, packet and padding make the datagram
pub framed_parts : (v : Values) (a x b : List ℕ) (k p : ℕ) → k ≡ length (packet_bytes v a x b) → p ≡ cond (ltb k 7) (32 * k) 0
    → swapped (joined ((p ∷ []) ∷ front_bytes v a ∷ back_bytes v x b ∷ replicate (7 - k) 0 ∷ [])) ≡ datagram_of v a x b
unfolding datagram_of framed prefix_for padded
framed_parts v a x b k p ek ep =
    let ep' : p ≡ cond (ltb (length (packet_bytes v a x b)) 7) (32 * length (packet_bytes v a x b)) 0 = ep ∙ ap (λ (n : ℕ). cond (ltb n 7) (32 * n) 0) ek in
    let er : replicate {A = ℕ} (7 - k) 0 ≡ replicate (7 - length (packet_bytes v a x b)) 0 = ap (λ (n : ℕ). replicate (7 - n) 0) ek in
    let z : List ℕ = replicate (7 - length (packet_bytes v a x b)) 0 in
    let body : front_bytes v a ++ (back_bytes v x b ++ (z ++ [])) ≡ packet_bytes v a x b ++ z =
    ap (λ (l : List ℕ). front_bytes v a ++ (back_bytes v x b ++ l)) (append-nil z)
    ∙ sym (append_assoc (front_bytes v a) (back_bytes v x b) z) ∙ ap (λ (l : List ℕ). l ++ z) (sym (packet_parts v a x b)) in
    ap swapped
    (ap (λ (n : ℕ). n ∷ (front_bytes v a ++ (back_bytes v x b ++ (replicate (7 - k) 0 ++ [])))) ep'
    ∙ ap (λ (l : List ℕ). cond (ltb (length (packet_bytes v a x b)) 7) (32 * length (packet_bytes v a x b)) 0 ∷ (front_bytes v a ++ (back_bytes v x b ++ (l ++ [])))) er
    ∙ ap (λ (l : List ℕ). cond (ltb (length (packet_bytes v a x b)) 7) (32 * length (packet_bytes v a x b)) 0 ∷ l) body)

pub parts_length : (v : Values) (a x b : List ℕ) (k p : ℕ) → k ≡ length (packet_bytes v a x b)
    → length (joined ((p ∷ []) ∷ front_bytes v a ∷ back_bytes v x b ∷ replicate (7 - k) 0 ∷ [])) ≡ 1 + k + (7 - k)
parts_length v a x b k p e =
    let z : List ℕ = replicate (7 - k) 0 in
    let r = length-replicate {A = ℕ} (7 - k) 0 in
    let l1 = length-append (front_bytes v a) (back_bytes v x b ++ (replicate (7 - k) 0 ++ [])) in
    let l2 = length-append (back_bytes v x b) (replicate (7 - k) 0 ++ []) in
    let l3 = ap length (append-nil {A = ℕ} (replicate (7 - k) 0)) in
    let q = packet_length v a x b in
    omega arith
