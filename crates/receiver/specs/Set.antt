-- Demand 3's set of datagrams (document 01, "Demand 3's set, at the outset").
use Rattle.std.specs.Prelude.{ℕ, ◌+◌, ◌≤◌, ◌<◌, true, List, [], ◌≡◌, length, Err, Ok, Some, None}
use Rattle.std.proofs.Math.Option.{Option, none, some}
use Rattle.numbers.specs.Full.{highest}
use Rattle.window.specs.Members.{In}
use Rattle.wire.specs.declared.Packet.{Packet as WirePacket}
use Rattle.wire.specs.Flags.{data_in}
use Rattle.wire.specs.Read.{read_of, Reading}
use Rattle.wire.specs.Same.{body_in, Bytes}
use Rattle.receiver.specs.declared.Receiver.{Receiver}
use Rattle.receiver.specs.Record.{State, contents}
use Rattle.receiver.specs.Consistent.{sound_of}
use Rattle.receiver.specs.Packet.{Packet}
use Rattle.receiver.specs.Receive.{packet_from}
use Rattle.receiver.specs.Determined.{held_in}
use Rattle.receiver.specs.History.{Event, datagrams_of}

-- reading accepts a datagram with DATA, and none of its numbers is out of place for the record; other payloads do not reach the receiver
pub record Readable (r : Receiver) (d : List ℕ) : Type 0 where
  pub bytes : Bytes d
  pub taken : WirePacket
  pub reads : read_of d ≡ Ok (Some taken)
  pub carries : data_in taken.values.flags ≡ true
  pub packet : Packet
  pub widens : packet_from r taken.values (body_in d taken) ≡ some packet

-- the packet that a datagram brings, its numbers widened against the record
abbrev no_packet : Packet
no_packet = record { number = 0; channel = 0; aoa = none; block = [] }

abbrev widened : Option Packet → Packet
widened none = no_packet
widened (some p) = p

abbrev packet_read : Receiver → List ℕ → Reading → Packet
packet_read r d (Err n) = no_packet
packet_read r d (Ok None) = no_packet
packet_read r d (Ok (Some p)) = widened (packet_from r p.values (body_in d p))

unfoldable pub packet_at : Receiver → List ℕ → Packet
packet_at r d = packet_read r d (read_of d)

-- "AckOfAcks from base − 1,024 (not below the first) to base + 32"
abbrev pub AoaFits : ℕ → Receiver → Option ℕ → Type 0
AoaFits w r none = Unit {0}
AoaFits w r (some v) = (r.firstdata.0 ≤ v) × (r.base.0 ≤ v + 1024) × (v ≤ r.base.0 + w) × (v ≤ highest)

-- "data numbers from base to base + 31, channel numbers from due to due + 31 .., all in the full range"
pub record Fits (w : ℕ) (r : Receiver) (p : Packet) : Type 0 where
  pub number_low : r.base.0 ≤ p.number
  pub number_high : p.number < r.base.0 + w
  pub number_range : p.number ≤ highest
  pub channel_low : r.due.0 ≤ p.channel
  pub channel_high : p.channel < r.due.0 + w
  pub channel_range : p.channel ≤ highest
  pub aoa_fits : AoaFits w r p.aoa

-- the datagrams ds are such a set at the outset s, over a window of w
pub record Set (w cap : ℕ) (s : State) (ds : List (List ℕ)) : Type 0 where
  pub some : 0 < w
  pub small : w ≤ 1024
  pub fits : w ≤ cap
  -- "The outset's records are consistent, the stores of the right size and the datagrams such as reading accepts."
  pub outset : sound_of w cap s.receiver (length s.store) ≡ true
  pub readable : (d : List ℕ) → In d ds → Readable s.receiver d
  pub bounds : (d : List ℕ) → In d ds → Fits w s.receiver (packet_at s.receiver d)
  -- equal channel numbers carry equal blocks
  pub agree : (d e : List ℕ) → In d ds → In e ds → (packet_at s.receiver d).channel ≡ (packet_at s.receiver e).channel
      → (packet_at s.receiver d).block ≡ (packet_at s.receiver e).block
  -- "Blocks already held count with the set's and agree with them."
  pub with_held : (d : List ℕ) → In d ds → held_in w s.receiver (packet_at s.receiver d).channel ≡ true
      → (packet_at s.receiver d).block ≡ contents w s (packet_at s.receiver d).channel

-- a history whose datagrams are of the set, and one in which each of the set arrives
abbrev pub From : List (List ℕ) → List Event → Type 0
From ds es = (d : List ℕ) → In d (datagrams_of es) → In d ds

abbrev pub Covers : List (List ℕ) → List Event → Type 0
Covers ds es = (d : List ℕ) → In d ds → In d (datagrams_of es)
