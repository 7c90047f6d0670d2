-- Where the payloads of a packet stand, in document 000's order, and what they say. p is the datagram with its two bytes exchanged, f the
-- header's flags. Each payload begins where the one before it ends, the first at place 3, behind the prefix and the header.
use Rattle.std.specs.Prelude.{ℕ, ◌+◌, ◌-◌, ◌%◌, ◌/◌, Bool, false, cond, List, ◌≡◌, take, drop, eqb}
use Rattle.wire.specs.declared.Ack.{Ack}
use Rattle.wire.specs.declared.Delay.{Delay}
use Rattle.wire.specs.declared.Vector.{Vector}
use Rattle.wire.specs.declared.Values.{Values}
use Rattle.wire.specs.declared.Packet.{Packet}
use Rattle.wire.specs.Frame.{byte_at, word_at, three_at, swapped}
use Rattle.wire.specs.Flags.{ack_in, data_in, vector_in, aoa_in, overhead_in, delay_in}

-- "Header, 2 bytes: flags in bits 0..11, LogWindowSize in 12..15."
abbrev pub flags_of : List ℕ → ℕ
flags_of p = word_at p 1 % 4096

abbrev pub logwindow_of : List ℕ → ℕ
logwindow_of p = word_at p 1 / 4096

-- a size where it is flagged, 0 where it is not
abbrev pub sized : Bool → ℕ → ℕ
sized flag n = cond flag n 0

-- "ACK: SeqNum 2 bytes, receivedTS 3, sendAckTimeGap 1, one byte with count n in the low four bits and scale in the high four, then n bytes."
abbrev pub ack_at : List ℕ → ℕ → Ack
ack_at p at =
    record {
      number = word_at p at;
      time = three_at p (at + 2);
      gap = byte_at p (at + 5);
      count = byte_at p (at + 6) % 16;
      scale = byte_at p (at + 6) / 16;
    }

-- "DelayAckInfo: MaxDelayedAcks 1, timeout 2."
abbrev pub delay_at : List ℕ → ℕ → Delay
delay_at p at = record { most = byte_at p at; timeout = word_at p (at + 1) }

-- "ACKVEC: BaseSeqNum 2, one byte with size in bits 0..6 and time-stamp-present in bit 7, if present TimeStamp 3 and gap 1, then size bytes."
abbrev pub timed_at : List ℕ → ℕ → Bool
timed_at p at = eqb (byte_at p (at + 2) / 128 % 2) 1

abbrev pub vector_at : List ℕ → ℕ → Vector
vector_at p at =
    record {
      base = word_at p at;
      size = byte_at p (at + 2) % 128;
      timed = timed_at p at;
      time = sized (timed_at p at) (three_at p (at + 3));
      gap = sized (timed_at p at) (byte_at p (at + 6));
    }

-- how long the two payloads with bytes of their own are; a payload whose count lies past the packet's end is past it whatever that count says
abbrev pub ack_size : List ℕ → ℕ → ℕ
ack_size p at = 7 + byte_at p (at + 6) % 16

abbrev pub stamp_size : Bool → ℕ
stamp_size timed = sized timed 4

abbrev pub vector_size : List ℕ → ℕ → ℕ
vector_size p at = 3 + stamp_size (timed_at p at) + byte_at p (at + 2) % 128

-- where each payload ends: "ACK .. OverheadSize: 1. DelayAckInfo .. AckOfAcks: 2. DataHeader: DataSeqNum 2. ACKVEC .. DataBody: ChannelSeqNum 2, then the rest"
unfoldable pub ack_end : List ℕ → ℕ → ℕ
ack_end p f = 3 + sized (ack_in f) (ack_size p 3)

unfoldable pub overhead_end : List ℕ → ℕ → ℕ
overhead_end p f = ack_end p f + sized (overhead_in f) 1

unfoldable pub delay_end : List ℕ → ℕ → ℕ
delay_end p f = overhead_end p f + sized (delay_in f) 3

unfoldable pub aoa_end : List ℕ → ℕ → ℕ
aoa_end p f = delay_end p f + sized (aoa_in f) 2

unfoldable pub number_end : List ℕ → ℕ → ℕ
number_end p f = aoa_end p f + sized (data_in f) 2

unfoldable pub vector_end : List ℕ → ℕ → ℕ
vector_end p f = number_end p f + sized (vector_in f) (vector_size p (number_end p f))

unfoldable pub channel_end : List ℕ → ℕ → ℕ
channel_end p f = vector_end p f + sized (data_in f) 2

-- six places that are where the first six payloads end
pub record Places (p : List ℕ) (f at1 at2 at3 at4 at5 at6 : ℕ) : Type 0 where
  pub ack : at1 ≡ ack_end p f
  pub overhead : at2 ≡ overhead_end p f
  pub delay : at3 ≡ delay_end p f
  pub aoa : at4 ≡ aoa_end p f
  pub number : at5 ≡ number_end p f
  pub vector : at6 ≡ vector_end p f

-- "The endpoint writes LogWindowSize 5"
abbrev pub log_window : ℕ
log_window = 5

-- what is absent is 0
abbrev pub no_ack : Ack
no_ack = record { number = 0; time = 0; gap = 0; count = 0; scale = 0 }

abbrev pub no_delay : Delay
no_delay = record { most = 0; timeout = 0 }

abbrev pub no_vector : Vector
no_vector = record { base = 0; size = 0; timed = false; time = 0; gap = 0 }

-- the packet's values, and the places of its additions, its vector bytes and its body, which goes up to the packet's end
unfoldable pub values_of : List ℕ → ℕ → Values
values_of p f =
    record {
      flags = f;
      logwindow = logwindow_of p;
      ack = cond (ack_in f) (ack_at p 3) no_ack;
      overhead = sized (overhead_in f) (byte_at p (ack_end p f));
      delay = cond (delay_in f) (delay_at p (overhead_end p f)) no_delay;
      aoa = sized (aoa_in f) (word_at p (delay_end p f));
      number = sized (data_in f) (word_at p (aoa_end p f));
      vector = cond (vector_in f) (vector_at p (number_end p f)) no_vector;
      channel = sized (data_in f) (word_at p (vector_end p f));
    }

unfoldable pub packet_of : List ℕ → ℕ → ℕ → Packet
packet_of p f end =
    record {
      values = values_of p f;
      additions = sized (ack_in f) 10;
      vector = sized (vector_in f) (number_end p f + 3 + stamp_size (timed_at p (number_end p f)));
      body = sized (data_in f) (channel_end p f);
      bytes = sized (data_in f) (end - channel_end p f);
    }

-- the n bytes that stand at a place of a datagram as it came
unfoldable pub part_of : List ℕ → ℕ → ℕ → List ℕ
part_of d at n = take n (drop at (swapped d))
