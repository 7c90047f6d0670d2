-- Reading, a law for each way out.
use Rattle.std.specs.Prelude.{Err, Ok, Some, None}
use Rattle.common.specs.declared.Refusal.TheVariants.{LeftOver, Length, OtherFlag, PastTheEnd, Prefix, TwoAcknowledgements}
use Prim.Native.Nat.{ℕ, ◌-◌, ◌≤◌, ◌<◌}
use mathlib.Core.Bool.{true, false, not}
use mathlib.Core.List.{List}
use mathlib.Core.Path.{◌≡◌, refl, sym, ◌∙◌, ap}
use lib.ListN.{length}
use lib.Dec.{eqb, ltb}
use native.Mathlib.Omega.{arith}
use borrow.Author.Tests.{lt-ltb, le-ltb, eq-eqb, ne_eqb}
use Rattle.common.specs.Answer.{refusal_of}
use Rattle.common.specs.Order.{first}
use Rattle.wire.specs.declared.Packet.{Packet}
use Rattle.wire.specs.Frame.{swapped, byte_at, reserved_in, type_in, dropped_by, end_of}
use Rattle.wire.specs.Flags.{ack_in, vector_in, data_in, outside, both}
use Rattle.wire.specs.Layout.{flags_of, channel_end, packet_of}
use Rattle.wire.specs.Read.{read_as, read_payloads, read_packet, read_of, Reading}
use Rattle.wire.specs.Round.Framing.{swapped_length}

-- the payloads

pub payloads_past : (p : List ℕ) (f end at : ℕ) → at ≡ channel_end p f → end < at → Err PastTheEnd ≡ read_payloads p f end
unfolding read_payloads first refusal_of
payloads_past p f end at e h = let g : end < channel_end p f = omega arith in rw (lt-ltb end (channel_end p f) g) refl

pub payloads_left : (p : List ℕ) (f end at : ℕ) → at ≡ channel_end p f → at ≤ end
    → both (not (data_in f)) (ltb (channel_end p f) end) ≡ true → Err LeftOver ≡ read_payloads p f end
unfolding read_payloads first refusal_of
payloads_left p f end at e h t = let g : channel_end p f ≤ end = omega arith in rw (le-ltb end (channel_end p f) g, t) refl

pub payloads_read : (p : List ℕ) (f end at : ℕ) (v : Packet) → at ≡ channel_end p f → at ≤ end
    → both (not (data_in f)) (ltb (channel_end p f) end) ≡ false → v ≡ packet_of p f end → Ok (Some v) ≡ read_payloads p f end
unfolding read_payloads first
payloads_read p f end at v e h t w =
    let g : channel_end p f ≤ end = omega arith in rw (le-ltb end (channel_end p f) g, t) (ap read_as w)

-- the header; f is the code's reading of the flags

pub header_past : (p : List ℕ) (end : ℕ) → end < 3 → Err PastTheEnd ≡ read_packet p end
unfolding read_packet first refusal_of
header_past p end h = rw (lt-ltb end 3 h) refl

pub header_others : (p : List ℕ) (end f : ℕ) → f ≡ flags_of p → 3 ≤ end → outside f ≡ true → Err OtherFlag ≡ read_packet p end
unfolding read_packet first refusal_of
header_others p end f e h t = let g : outside (flags_of p) ≡ true = rw e at t in rw (le-ltb end 3 h, g) refl

pub header_both : (p : List ℕ) (end f : ℕ) → f ≡ flags_of p → 3 ≤ end → outside f ≡ false
    → both (ack_in f) (vector_in f) ≡ true → Err TwoAcknowledgements ≡ read_packet p end
unfolding read_packet first refusal_of
header_both p end f e h t u =
    let g : outside (flags_of p) ≡ false = rw e at t in
    let k : both (ack_in (flags_of p)) (vector_in (flags_of p)) ≡ true = rw e at u in
    rw (le-ltb end 3 h, g, k) refl

pub header_read : (p : List ℕ) (end f : ℕ) (r : Reading) → f ≡ flags_of p → 3 ≤ end → outside f ≡ false
    → both (ack_in f) (vector_in f) ≡ false → r ≡ read_payloads p f end → r ≡ read_packet p end
unfolding read_packet read_payloads first
header_read p end f r e h t u w =
    let g : outside (flags_of p) ≡ false = rw e at t in
    let k : both (ack_in (flags_of p)) (vector_in (flags_of p)) ≡ false = rw e at u in
    rw (le-ltb end 3 h, g, k) (rw e at w)

-- the frame

pub frame_short : (d : List ℕ) → length d < 8 → Err Length ≡ read_of d
unfolding read_of first refusal_of
frame_short d h = rw (lt-ltb (length d) 8 h) refl

pub frame_long : (d : List ℕ) → 1232 < length d → Err Length ≡ read_of d
unfolding read_of first refusal_of
frame_long d h = rw (le-ltb (length d) 8 (omega arith), lt-ltb 1232 (length d) h) refl

module _ (d : List ℕ) (prefix : ℕ) (e : prefix ≡ byte_at (swapped d) 0) (low : 8 ≤ length d) (high : length d ≤ 1232) where
  pub frame_reserved : eqb (reserved_in prefix) 1 ≡ true → Err Prefix ≡ read_of d
  unfolding read_of first refusal_of
  frame_reserved t =
      let g : eqb (reserved_in (byte_at (swapped d) 0)) 1 ≡ true = rw e at t in
      rw (le-ltb (length d) 8 low, le-ltb 1232 (length d) high, g) refl

  pub frame_dummy : (k : ℕ) → k ≡ type_in prefix → eqb (reserved_in prefix) 1 ≡ false → k ≡ 8 → Ok None ≡ read_of d
  unfolding read_of first
  frame_dummy k w t h =
      let g : eqb (reserved_in (byte_at (swapped d) 0)) 1 ≡ false = rw e at t in
      let u : eqb (type_in (byte_at (swapped d) 0)) 8 ≡ true = eq-eqb (type_in (byte_at (swapped d) 0)) 8 (sym (w ∙ ap type_in e) ∙ h) in
      rw (le-ltb (length d) 8 low, le-ltb 1232 (length d) high, g, u) refl

  pub frame_type : (k : ℕ) → k ≡ type_in prefix → eqb (reserved_in prefix) 1 ≡ false → (k ≡ 8 → ⊥) → (k ≡ 0 → ⊥) → Err Prefix ≡ read_of d
  unfolding read_of first refusal_of
  frame_type k w t h z =
      let g : eqb (reserved_in (byte_at (swapped d) 0)) 1 ≡ false = rw e at t in
      let u : eqb (type_in (byte_at (swapped d) 0)) 8 ≡ false = ne_eqb (type_in (byte_at (swapped d) 0)) 8 (λ q. h (w ∙ ap type_in e ∙ q)) in
      let v : eqb (type_in (byte_at (swapped d) 0)) 0 ≡ false = ne_eqb (type_in (byte_at (swapped d) 0)) 0 (λ q. z (w ∙ ap type_in e ∙ q)) in
      rw (le-ltb (length d) 8 low, le-ltb 1232 (length d) high, g, u, v) refl

  pub frame_read : (k n end : ℕ) (r : Reading) → k ≡ type_in prefix → eqb (reserved_in prefix) 1 ≡ false → (k ≡ 8 → ⊥) → k ≡ 0
      → n ≡ dropped_by prefix → end ≡ length d - n → r ≡ read_packet (swapped d) end → r ≡ read_of d
  unfolding read_of end_of first
  frame_read k n end r w t h z m q x =
      let g : eqb (reserved_in (byte_at (swapped d) 0)) 1 ≡ false = rw e at t in
      let u : eqb (type_in (byte_at (swapped d) 0)) 8 ≡ false = ne_eqb (type_in (byte_at (swapped d) 0)) 8 (λ q. h (w ∙ ap type_in e ∙ q)) in
      let v : eqb (type_in (byte_at (swapped d) 0)) 0 ≡ true = eq-eqb (type_in (byte_at (swapped d) 0)) 0 (sym (w ∙ ap type_in e) ∙ z) in
      let y : length (swapped d) - dropped_by (byte_at (swapped d) 0) ≡ end =
      ap (λ (l : ℕ). l - dropped_by (byte_at (swapped d) 0)) (swapped_length d) ∙ ap (λ (l : ℕ). length d - l) (sym (m ∙ ap dropped_by e)) ∙ sym q in
      rw (le-ltb (length d) 8 low, le-ltb 1232 (length d) high, g, u, v, y) x
