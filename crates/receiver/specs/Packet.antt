-- What a packet does to the receiver, its numbers widened (document 01, "Receiver"): "AckOfAcks v waives all below v. Data number n must be below B + 32,
-- B the larger of base and v, else 7. Channel number c must be below due + 32, else 7; numbers above the full range are 7."
use Rattle.std.specs.Prelude.{ℕ, ◌+◌, ◌%◌, max, Bool, false, cond, not, List, [], ◌∷◌, length, set, eqb, leb, ltb}
use Rattle.std.proofs.Math.Option.{Option, none, some}
use Rattle.common.specs.Put.{put_of}
use Rattle.common.specs.Order.{Test, test, first}
use Rattle.numbers.specs.Full.{highest}
use Rattle.window.specs.Store.{store_place}
use Rattle.window.specs.Window.{Win, put, lifted, slid}
use Rattle.receiver.specs.declared.Hold.{Hold}
use Rattle.receiver.specs.declared.Receiver.{Receiver}
use Rattle.receiver.specs.Record.{State, is_marked, is_held, holding, marks_of, hold_at}

-- a packet of data
pub record Packet : Type 0 where
  pub number : ℕ
  pub channel : ℕ
  pub aoa : Option ℕ
  pub block : List ℕ

-- what a datagram brings the receiver: nothing, an AckOfAcks alone, or data
pub data Arrival : Type 0 where
  nothing : Arrival
  waiver : ℕ → Arrival
  content : Packet → Arrival

-- all below is waived; without an AckOfAcks nothing is
abbrev pub waived : Option ℕ → ℕ
waived none = 0
waived (some v) = v

-- the refusal of a packet by its numbers: all below v is waived, n is its data number and c its channel number
abbrev pub number_tests : ℕ → ℕ → ℕ → ℕ → ℕ → ℕ → List Test
number_tests w base due v n c =
    test (ltb highest v) 7
    ∷ test (ltb highest n) 7
    ∷ test (leb (max base v + w) n) 7
    ∷ test (ltb highest c) 7
    ∷ test (leb (due + w) c) 7
    ∷ []

unfoldable pub numbers_answer : ℕ → ℕ → ℕ → ℕ → ℕ → ℕ → ℕ
numbers_answer w base due v n c = first (number_tests w base due v n c)

abbrev pub packet_answer : ℕ → Receiver → Packet → ℕ
packet_answer w r p = numbers_answer w r.base.0 r.due.0 (waived p.aoa) p.number p.channel

unfoldable pub arrival_answer : ℕ → Receiver → Arrival → ℕ
arrival_answer w r nothing = 0
arrival_answer w r (waiver v) = first (test (ltb highest v) 7 ∷ [])
arrival_answer w r (content p) = packet_answer w r p

-- number n is marked, "unless below base"
unfoldable pub marked : ℕ → Win ℕ → ℕ → Win ℕ
marked w m n = cond (ltb n m.base) m (put 0 w m n 1)

-- waived, marked, "base moved past marked places"
abbrev pub marks_after : ℕ → Receiver → Packet → Win ℕ
marks_after w r p = slid 0 w is_marked w (marked w (lifted 0 w (waived p.aoa) (marks_of r)) p.number)

-- "A block below due, or already held, is a repeat: the first copy stays."
unfoldable pub is_new : ℕ → ℕ → Hold → Bool
is_new due c h = cond (ltb c due) false (not (is_held h))

abbrev pub keeps : ℕ → Receiver → ℕ → Bool
keeps w r c = is_new r.due.0 c (hold_at w r c)

abbrev pub holds_after : ℕ → Receiver → Packet → List Hold
holds_after w r p = cond (keeps w r p.channel) (set r.holds (p.channel % w) (holding (length p.block))) r.holds

-- "storing changes only the block's own bytes there"
abbrev pub store_after : ℕ → State → Packet → List ℕ
store_after w s p =
    cond (keeps w s.receiver p.channel) (put_of s.store (store_place w p.channel) p.block) s.store

-- "The data number is marked in any case, unless below base; end is raised even then."
abbrev pub receiver_after : ℕ → Receiver → Packet → Receiver
receiver_after w r p =
    record {
      firstdata = r.firstdata;
      firstchannel = r.firstchannel;
      base = record { 0 = (marks_after w r p).base };
      end = record { 0 = max r.end.0 (p.number + 1) };
      due = r.due;
      marks = (marks_after w r p).places;
      holds = holds_after w r p;
    }

-- an AckOfAcks alone waives, and base passes marked places
abbrev pub waiver_after : ℕ → Receiver → ℕ → Receiver
waiver_after w r v =
    record {
      firstdata = r.firstdata;
      firstchannel = r.firstchannel;
      base = record { 0 = (slid 0 w is_marked w (lifted 0 w v (marks_of r))).base };
      end = r.end;
      due = r.due;
      marks = (slid 0 w is_marked w (lifted 0 w v (marks_of r))).places;
      holds = r.holds;
    }

-- "Only when all pass is n marked, end raised, base moved past marked places, and the block stored at its place."
unfoldable pub packet_of : ℕ → State → Packet → State
packet_of w s p =
    cond (eqb (packet_answer w s.receiver p) 0) (record { receiver = receiver_after w s.receiver p; store = store_after w s p }) s

unfoldable pub arrival_of : ℕ → State → Arrival → State
arrival_of w s nothing = s
arrival_of w s (waiver v) =
    cond (eqb (arrival_answer w s.receiver (waiver v)) 0) (record { receiver = waiver_after w s.receiver v; store = s.store }) s
arrival_of w s (content p) = packet_of w s p
