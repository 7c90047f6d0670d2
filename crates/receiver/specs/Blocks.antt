-- The block of a datagram that reading accepts: where it stands, and that it fits into a place of the store.
use Rattle.std.specs.Prelude.{ℕ, ◌+◌, ◌-◌, ◌≤◌, true, List, ◌≡◌, length, drop, Ok, Some}
use Rattle.std.proofs.Common.{◌∙◌, ap, subst, arith, length-drop, length-take-le}
use Rattle.window.specs.Store.{place_size}
use Rattle.wire.specs.declared.Packet.{Packet}
use Rattle.wire.specs.Flags.{data_in}
use Rattle.wire.specs.Frame.{swapped, end_of}
use Rattle.wire.specs.Layout.{flags_of, ack_end, overhead_end, delay_end, aoa_end, number_end, vector_end, channel_end, values_of, packet_of, part_of}
use Rattle.wire.specs.Read.{read_of}
use Rattle.wire.specs.Same.{body_in}
use Rattle.wire.specs.Round.Framing.{swapped_length}
use Rattle.wire.specs.Round.Found.{Found, found, read_found}

pub record Block (d : List ℕ) (p : Packet) : Type 0 where
  pub wide : 8 ≤ length d
  pub place : 7 ≤ p.body
  pub inside : p.body + p.bytes ≤ length d
  pub short : p.bytes ≤ place_size
  pub long : length (body_in d p) ≡ p.bytes

-- the header, DataHeader and ChannelSeqNum stand before the body
body_place_lem : (p : List ℕ) (f : ℕ) → data_in f ≡ true → 7 ≤ channel_end p f
unfolding channel_end vector_end number_end aoa_end delay_end overhead_end ack_end
body_place_lem p f h = rw h (omega arith)

found_block : (d : List ℕ) → Found d → data_in (flags_of (swapped d)) ≡ true → Block d (found d)
unfolding packet_of values_of part_of
found_block d k h =
    let p : List ℕ = swapped d in
    let at : ℕ = channel_end p (flags_of p) in
    let size = swapped_length d in
    let seven = body_place_lem p (flags_of p) h in
    let whole : at ≤ end_of p = k.inside.payloads in
    let last = k.inside.ends in
    rw h
    (record {
      wide = k.long;
      place = seven;
      inside = omega arith;
      short = omega (arith, k.short);
      long = length-take-le (end_of p - at) (drop at p) (omega (arith, length-drop at p));
    })

pub read_block : (d : List ℕ) (p : Packet) → read_of d ≡ Ok (Some p) → data_in p.values.flags ≡ true → Block d p
unfolding packet_of values_of
read_block d p e h =
    let (facts, same) = read_found d p e in
    subst (λ (q : Packet). Block d q) same (found_block d facts (ap (λ (q : Packet). data_in q.values.flags) same ∙ h))
