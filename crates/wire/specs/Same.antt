-- What it means that a datagram says the same as some values and bytes.
use Rattle.std.specs.Prelude.{ℕ, ◌<◌, cond, List, ◌≡◌, get_or, Ok, Some}
use Rattle.wire.specs.declared.Vector.{Vector}
use Rattle.wire.specs.declared.Values.{Values}
use Rattle.wire.specs.declared.Packet.{Packet}
use Rattle.wire.specs.Flags.{ack_in, data_in, vector_in, aoa_in, overhead_in, delay_in}
use Rattle.wire.specs.Layout.{sized, no_ack, no_delay, no_vector, part_of}
use Rattle.wire.specs.Read.{read_of}
use Rattle.wire.specs.Write.{given}

-- the bytes of a datagram that a packet points to
abbrev pub additions_in : List ℕ → Packet → List ℕ
additions_in d p = part_of d p.additions p.values.ack.count

abbrev pub coded_in : List ℕ → Packet → List ℕ
coded_in d p = part_of d p.vector p.values.vector.size

abbrev pub body_in : List ℕ → Packet → List ℕ
body_in d p = part_of d p.body p.bytes

-- a vector's values: a time and a gap only where a time stamp is present
abbrev pub kept_vector : Vector → Vector
kept_vector x =
    record { base = x.base; size = x.size; timed = x.timed; time = sized x.timed x.time; gap = sized x.timed x.gap }

-- the values as to what is flagged: "what is not flagged is not looked at", and reads back as 0
abbrev pub kept_of : Values → Values
kept_of v =
    record {
      flags = v.flags;
      logwindow = v.logwindow;
      ack = cond (ack_in v.flags) v.ack no_ack;
      overhead = sized (overhead_in v.flags) v.overhead;
      delay = cond (delay_in v.flags) v.delay no_delay;
      aoa = sized (aoa_in v.flags) v.aoa;
      number = sized (data_in v.flags) v.number;
      vector = cond (vector_in v.flags) (kept_vector v.vector) no_vector;
      channel = sized (data_in v.flags) v.channel;
    }

-- the datagram d reads as these values, with these additions, vector bytes and body
pub record Says (v : Values) (additions vector body d : List ℕ) : Type 0 where
  pub packet : Packet
  pub reads : read_of d ≡ Ok (Some packet)
  pub values : packet.values ≡ kept_of v
  pub additions_same : additions_in d packet ≡ given (ack_in v.flags) additions
  pub vector_same : coded_in d packet ≡ given (vector_in v.flags) vector
  pub body_same : body_in d packet ≡ given (data_in v.flags) body

-- a list of bytes
abbrev pub Bytes : List ℕ → Type 0
Bytes d = (i : ℕ) → get_or d i 0 < 256
