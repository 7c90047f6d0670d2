-- `reader::read_payloads` meets its contract: each way out is an instance of a law of Places and Refusals.
use native.Mathlib.Omega.{arith}
use mathlib.Core.Path.{◌∙◌, ap, sym}
use mathlib.Core.Bool.{Bool, not}
use lib.Dec.{ltb}
use Prim.Native.Nat.{ℕ, ◌+◌, ◌-◌}
use Rattle.wire.specs.Frame.{swapped}
use Rattle.wire.specs.Flags.{both, data_in}
use Rattle.wire.specs.Layout.{sized, stamp_size, timed_at, packet_of}
use Rattle.reader.proofs.Places.{places_made, place_last, moved}
use Rattle.reader.proofs.Refusals.{payloads_past, payloads_left, payloads_read}
use Rattle.reader.proofs.read_payloads.Goals as goal

pub returns-then-end-at7 : goal.returns-then-end-at7
returns-then-end-at7 c = let at = places_made (swapped c.args.d.now) c.args.flags _ _ _ _ _ _ _ _ c.flag.ensures c.flag-isvector.ensures c.ack_end-at1.ensures.0 c.step-at2.ensures.0 c.step-at3.ensures.0 c.step-at4.ensures.0 c.step-at5.ensures.0 c.vector_end-at6.ensures.0 in
    let last = place_last (swapped c.args.d.now) c.args.flags _ _ at.vector c.step-at7.ensures.0 in
    payloads_past _ _ _ _ last c.if-end-at7.true

pub returns-then-left_over : goal.returns-then-left_over
returns-then-left_over c = let at = places_made (swapped c.args.d.now) c.args.flags _ _ _ _ _ _ _ _ c.flag.ensures c.flag-isvector.ensures c.ack_end-at1.ensures.0 c.step-at2.ensures.0 c.step-at3.ensures.0 c.step-at4.ensures.0 c.step-at5.ensures.0 c.vector_end-at6.ensures.0 in
    let last = place_last (swapped c.args.d.now) c.args.flags _ _ at.vector c.step-at7.ensures.0 in
    let over = c.left_over.ensures ∙ ap (λ (b : Bool). both (not b) (ltb c.step-at7.result c.args.end)) c.flag-content.ensures ∙ ap (λ (n : ℕ). both (not (data_in c.args.flags)) (ltb n c.args.end)) last in
    payloads_left _ _ _ _ last c.if-end-at7.false (sym over ∙ c.if-left_over.true)

pub values_at-values-requires : goal.values_at-values-requires
values_at-values-requires c = let at = places_made (swapped c.args.d.now) c.args.flags _ _ _ _ _ _ _ _ c.flag.ensures c.flag-isvector.ensures c.ack_end-at1.ensures.0 c.step-at2.ensures.0 c.step-at3.ensures.0 c.step-at4.ensures.0 c.step-at5.ensures.0 c.vector_end-at6.ensures.0 in record { in_bounds = (c.requires.in_bounds.0, omega (arith, c.ack_end-at1.ensures.1, c.step-at2.ensures.1, c.step-at3.ensures.1, c.step-at4.ensures.1, c.step-at5.ensures.1), omega (arith, c.ack_end-at1.ensures.1, c.step-at2.ensures.1, c.step-at3.ensures.1, c.step-at4.ensures.1, c.step-at5.ensures.1), omega (arith, c.ack_end-at1.ensures.1, c.step-at2.ensures.1, c.step-at3.ensures.1, c.step-at4.ensures.1, c.step-at5.ensures.1), omega (arith, c.ack_end-at1.ensures.1, c.step-at2.ensures.1, c.step-at3.ensures.1, c.step-at4.ensures.1, c.step-at5.ensures.1), omega (arith, c.ack_end-at1.ensures.1, c.step-at2.ensures.1, c.step-at3.ensures.1, c.step-at4.ensures.1, c.step-at5.ensures.1, c.vector_end-at6.ensures.1)); header_value = c.requires.header_value; places = at }

pub vector_place-vector-requires : goal.vector_place-vector-requires
vector_place-vector-requires c = (c.requires.in_bounds.0, omega (arith, c.ack_end-at1.ensures.1, c.step-at2.ensures.1, c.step-at3.ensures.1, c.step-at4.ensures.1, c.step-at5.ensures.1))

pub returns : goal.returns
unfolding packet_of
returns c = let at = places_made (swapped c.args.d.now) c.args.flags _ _ _ _ _ _ _ _ c.flag.ensures c.flag-isvector.ensures c.ack_end-at1.ensures.0 c.step-at2.ensures.0 c.step-at3.ensures.0 c.step-at4.ensures.0 c.step-at5.ensures.0 c.vector_end-at6.ensures.0 in
    let last = place_last (swapped c.args.d.now) c.args.flags _ _ at.vector c.step-at7.ensures.0 in
    let over = c.left_over.ensures ∙ ap (λ (b : Bool). both (not b) (ltb c.step-at7.result c.args.end)) c.flag-content.ensures ∙ ap (λ (n : ℕ). both (not (data_in c.args.flags)) (ltb n c.args.end)) last in
    payloads_read _ _ _ _ _ last c.if-end-at7.false (sym over ∙ c.if-left_over.false)
    (λ i. record {
      values = c.values_at-values.ensures i;
      additions = (c.size_if-additions.ensures.0 ∙ ap (λ (b : Bool). sized b 10) c.flag-2.ensures) i;
      vector = moved (λ (k : ℕ). k + 3 + stamp_size (timed_at (swapped c.args.d.now) k)) 0 _ _ _ _ _ c.vector_place-vector.ensures c.flag-isvector.ensures at.number i;
      body = moved (λ (k : ℕ). k) 0 _ _ _ _ _ c.size_if-body.ensures.0 c.flag-content.ensures last i;
      bytes = moved (λ (k : ℕ). c.args.end - k) 0 _ _ _ _ _ c.size_if-bytes.ensures.0 c.flag-content.ensures last i;
    })
