-- A datagram of the set brings the same packet whatever the record has come to: widened against a near reference, a field gives the same number.
use Rattle.std.specs.Prelude.{ℕ, ◌+◌, ◌≤◌, ◌<◌, Bool, cond, List, ◌≡◌, refl, ltb, Ok, Some}
use Rattle.std.proofs.Math.Bool.{true, false}
use Rattle.std.proofs.Math.Option.{Option, none, some}
use Rattle.std.proofs.Common.{sym, ◌∙◌, ap, arith, le-ltb, ltb-false}
use Rattle.std.proofs.Math.Path.{subst}
use Rattle.numbers.specs.declared.Widened.{Widened}
use Rattle.numbers.specs.declared.Widened.TheVariants.{At, Below, Unclear}
use Rattle.numbers.specs.Widen.{widen_of}
use Rattle.numbers.specs.Nearest.{Near, widen_near, widen_only}
use Rattle.wire.specs.declared.Values.{Values}
use Rattle.wire.specs.declared.Packet.{Packet as WirePacket}
use Rattle.wire.specs.Flags.{data_in, aoa_in}
use Rattle.wire.specs.Frame.{word_at, swapped}
use Rattle.wire.specs.Layout.{sized, flags_of, delay_end, aoa_end, vector_end, values_of, packet_of}
use Rattle.wire.specs.Read.{read_of}
use Rattle.wire.specs.Same.{body_in, Bytes}
use Rattle.wire.specs.Round.Framing.{swapped_small}
use Rattle.wire.specs.Round.Found.{read_found}
use Rattle.receiver.specs.declared.Receiver.{Receiver}
use Rattle.receiver.specs.Packet.{Packet}
use Rattle.receiver.specs.Receive.{in_place, on_some, data_number, channel_number, if_flagged, aoa_number, packet_from}
use Rattle.receiver.specs.Keeping.Brought.{on_some_lem, some_once}
use Rattle.receiver.specs.Set.{AoaFits, Fits, Readable, packet_at}

-- The fields of a datagram of bytes have 16 bits.

pub record Words (v : Values) : Type 0 where
  pub number : v.number < 65536
  pub channel : v.channel < 65536
  pub aoa : v.aoa < 65536

word_small : (flag : Bool) (p : List ℕ) (at : ℕ) → Bytes p → sized flag (word_at p at) < 65536
word_small true p at small = omega (arith, small at, small (at + 1))
word_small false p at small = omega arith

read_words : (d : List ℕ) (p : WirePacket) → Bytes d → read_of d ≡ Ok (Some p) → Words p.values
unfolding packet_of values_of
read_words d p small e =
    let (facts, same) = read_found d p e in
    let q : List ℕ = swapped d in
    let f : ℕ = flags_of q in
    subst (λ (x : WirePacket). Words x.values) same
    (record {
      number = word_small (data_in f) q (aoa_end q f) (swapped_small d small);
      channel = word_small (data_in f) q (vector_end q f) (swapped_small d small);
      aoa = word_small (aoa_in f) q (delay_end q f) (swapped_small d small);
    })

-- One number.

in_place_lem : (first : ℕ) (x : Widened ℕ) (n : ℕ) → in_place first x ≡ some n → (x ≡ At n) × (first ≤ n)
in_place_lem first (At m) n e = go (ltb m first) refl e
  where
    go : (b : Bool) → ltb m first ≡ b → cond b none (some m) ≡ some n → (At m ≡ At n) × (first ≤ n)
    go true t q = absurd (let z : ◌≡◌ {A = ℕ} 0 1 = cc in omega arith)
    go false t q = let k : m ≡ n = cc in (ap At k, omega (arith, ltb-false m first t))
in_place_lem first (Below m) n e = absurd (let z : ◌≡◌ {A = ℕ} 0 1 = cc in omega arith)
in_place_lem first Unclear n e = absurd (let z : ◌≡◌ {A = ℕ} 0 1 = cc in omega arith)

number_again : (first r q f n : ℕ) → f < 65536 → in_place first (widen_of r f) ≡ some n → q ≤ n + 32767 → n ≤ q + 32767
    → in_place first (widen_of q f) ≡ some n
number_again first r q f n h e lo hi =
    let (at, from) = in_place_lem first (widen_of r f) n e in
    let near : Near r f (At n) = subst (Near r f) at (widen_near r f h) in
    rw (widen_only q f (At n) h (lo, hi, near.2), le-ltb n first from) refl

-- The packet.

-- the record q lies at most a window above the outset's, g
pub record Above (w : ℕ) (g q : Receiver) : Type 0 where
  pub first_data : q.firstdata.0 ≡ g.firstdata.0
  pub first_channel : q.firstchannel.0 ≡ g.firstchannel.0
  pub base_low : g.base.0 ≤ q.base.0
  pub base_high : q.base.0 ≤ g.base.0 + w
  pub due_low : g.due.0 ≤ q.due.0
  pub due_high : q.due.0 ≤ g.due.0 + w

module _ (w : ℕ) (g q : Receiver) (small : w ≤ 1024) (k : Above w g q) where
  data_again : (f n : ℕ) → f < 65536 → data_number g f ≡ some n → g.base.0 ≤ n + 1024 → n ≤ g.base.0 + w → data_number q f ≡ some n
  unfolding data_number
  data_again f n h e lo hi =
      rw k.first_data
      (number_again g.firstdata.0 g.base.0 q.base.0 f n h e (omega (arith, k.base_high)) (omega (arith, k.base_low)))

  channel_again : (f n : ℕ) → f < 65536 → channel_number g f ≡ some n → g.due.0 ≤ n → n ≤ g.due.0 + w → channel_number q f ≡ some n
  unfolding channel_number
  channel_again f n h e lo hi =
      rw k.first_channel
      (number_again g.firstchannel.0 g.due.0 q.due.0 f n h e (omega (arith, k.due_high)) (omega (arith, k.due_low)))

  aoa_again : (flag : Bool) (f : ℕ) (a : Option ℕ) → f < 65536 → aoa_number g flag f ≡ some a → AoaFits w g a → aoa_number q flag f ≡ some a
  unfolding if_flagged on_some
  aoa_again false f a h e fits = e
  aoa_again true f a h e fits =
      let (v, ev, ea) = on_some_lem (data_number g f) (λ v. some (some v)) a e in
      let sa : some v ≡ a = some_once (some v) a ea in
      let fv : AoaFits w g (some v) = subst (λ (y : Option ℕ). AoaFits w g y) (sym sa) fits in
      rw (data_again f v h ev fv.1 fv.2) (ap some sa)

  pub packet_again : (v : Values) (block : List ℕ) (p : Packet) → Words v → Fits w g p → packet_from g v block ≡ some p → packet_from q v block ≡ some p
  unfolding packet_from on_some
  packet_again v block p small fits e =
      let (a, ea, e1) = on_some_lem (aoa_number g (aoa_in v.flags) v.aoa) _ p e in
      let (n, en, e2) = on_some_lem (data_number g v.number) _ p e1 in
      let (c, ec, e3) = on_some_lem (channel_number g v.channel) _ p e2 in
      let same : record { number = n; channel = c; aoa = a; block = block } ≡ p = some_once _ p e3 in
      let fp = subst (λ (y : Packet). Fits w g y) (sym same) fits in
      rw (
        aoa_again (aoa_in v.flags) v.aoa a small.aoa ea fp.aoa_fits,
        data_again v.number n small.number en (omega (arith, fp.number_low)) (omega (arith, fp.number_high)),
        channel_again v.channel c small.channel ec fp.channel_low (omega (arith, fp.channel_high)),
      )
      e3

-- A readable datagram's packet.

pub packet_at_lem : (r : Receiver) (d : List ℕ) (k : Readable r d) → packet_at r d ≡ k.packet
unfolding packet_at
packet_at_lem r d k = rw (k.reads, k.widens) refl

pub brings_again : (w : ℕ) (g q : Receiver) → w ≤ 1024 → Above w g q → (d : List ℕ) (k : Readable g d) → Fits w g (packet_at g d)
    → packet_from q k.taken.values (body_in d k.taken) ≡ some (packet_at g d)
brings_again w g q small above d k fits =
    packet_again w g q small above k.taken.values (body_in d k.taken) (packet_at g d) (read_words d k.taken k.bytes k.reads) fits
    (k.widens ∙ ap some (sym (packet_at_lem g d k)))
