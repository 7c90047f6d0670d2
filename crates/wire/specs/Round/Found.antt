-- What a reading that is a packet tells of its datagram: every test failed, and the packet is the one that stands there.
use Rattle.std.specs.Prelude.{ℕ, ◌≤◌, Bool, true, false, cond, List, ◌≡◌, refl, length, eqb, ltb, Err, Ok, Some, None}
use Rattle.std.proofs.Common.{sym, arith, eqb-true, ltb-false}
use Rattle.common.specs.Answer.{refusal_of}
use Rattle.common.specs.Order.{first}
use Rattle.wire.specs.declared.Packet.{Packet}
use Rattle.wire.specs.Frame.{byte_at, swapped, type_in, end_of}
use Rattle.wire.specs.Layout.{flags_of, channel_end, packet_of}
use Rattle.wire.specs.Read.{frame_tests, packet_tests, refused, read_packet, read_of, Reading}
use Rattle.wire.specs.Round.Tests.{all_pass, neither}
use Rattle.wire.specs.Round.Respelled.{Inside}

accepted_read : (n : ℕ) (r : Reading) (packet : Packet) → refused n r ≡ Ok (Some packet) → (0 ≡ n) × (r ≡ Ok (Some packet))
accepted_read n r packet e = go (eqb n 0) refl e
  where
    go : (t : Bool) → eqb n 0 ≡ t → cond t r (Err (refusal_of n)) ≡ Ok (Some packet) → (0 ≡ n) × (r ≡ Ok (Some packet))
    go true t w = (sym (eqb-true n 0 t), w)
    go false t w = absurd (let z : ◌≡◌ {A = ℕ} 0 1 = cc in omega arith)

no_dummy : (t : Bool) (r : Reading) (packet : Packet) → cond t (Ok None) r ≡ Ok (Some packet) → r ≡ Ok (Some packet)
no_dummy true r packet e = absurd (let z : ◌≡◌ {A = ℕ} 0 1 = cc in omega arith)
no_dummy false r packet e = e

-- The packet that stands in a datagram.
abbrev pub found : List ℕ → Packet
found d = packet_of (swapped d) (flags_of (swapped d)) (end_of (swapped d))

pub record Found (d : List ℕ) : Type 0 where
  pub long : 8 ≤ length d
  pub short : length d ≤ 1232
  pub inside : Inside (swapped d) (flags_of (swapped d)) (end_of (swapped d))

pub read_found : (d : List ℕ) (packet : Packet) → read_of d ≡ Ok (Some packet) → Found d × (found d ≡ packet)
unfolding read_of read_packet end_of
read_found d packet e =
    let p : List ℕ = swapped d in
    let (a, framed) = accepted_read (first (frame_tests d)) _ packet e in
    let (b, same) =
    accepted_read (first (packet_tests p (end_of p))) _ packet (no_dummy (eqb (type_in (byte_at p 0)) 8) _ packet framed) in
    let frame = all_pass (frame_tests d) (omega arith) a in
    let lengths = neither (ltb (length d) 8) (ltb 1232 (length d)) frame.0 in
    let tests = all_pass (packet_tests p (end_of p)) (omega arith) b in (
      record {
        long = ltb-false (length d) 8 lengths.0;
        short = ltb-false 1232 (length d) lengths.1;
        inside =
            record {
              six = tests.1.0;
              single = tests.1.1.0;
              payloads = ltb-false (end_of p) (channel_end p (flags_of p)) tests.1.1.1.0;
              whole = tests.1.1.1.1.0;
              ends = omega arith;
            };
      },
      cc,
    )
