-- Acknowledgement: "ACK names every number up to SeqNum; a vector names its received ones. 8 exactly if a named number is not below next, or SeqNum or
-- BaseSeqNum is below the first. .. Missing states past next do no harm. Named pending numbers become received, their blocks acknowledged. Lost stays lost."
use Rattle.std.specs.Prelude.{ℕ, ◌+◌, Bool, true, false, cond, List, [], ◌∷◌, leb, ltb, eqb, Err, Ok, Some, None}
use Rattle.common.specs.Order.{test, first}
use Rattle.numbers.specs.declared.Widened.{Widened}
use Rattle.numbers.specs.declared.Widened.TheVariants.{At, Below, Unclear}
use Rattle.numbers.specs.Widen.{widen_of}
use Rattle.vector.specs.Says.{states_of, names}
use Rattle.wire.specs.declared.Packet.{Packet}
use Rattle.wire.specs.Flags.{ack_in, vector_in}
use Rattle.common.specs.Answer.{no_of}
use Rattle.wire.specs.Read.{read_of, Reading}
use Rattle.wire.specs.Same.{coded_in}
use Rattle.sender.specs.declared.Sender.{Sender}
use Rattle.sender.specs.Record.{received, acknowledged, remembering}
use Rattle.sender.specs.Consistent.{consistent_of}
use Rattle.sender.specs.Turn.{Turn, turned_of}

abbrev pub acknowledging : Turn
acknowledging = record { number = received; block = acknowledged }

unfoldable pub acknowledged_of : ℕ → Sender → (ℕ → Bool) → Sender
acknowledged_of w s named = turned_of w acknowledging named s

-- do the states from number n on name one that is not below next?
unfoldable pub names_unsent : List Bool → ℕ → ℕ → Bool
names_unsent [] n next = false
names_unsent (t ∷ ts) n next = cond (cond t (leb next n) false) true (names_unsent ts (n + 1) next)

-- an acknowledgement: nothing, every number up to one, or what a vector from a base names
pub data Told : Type 0 where
  silent : Told
  up_to : Widened ℕ → Told
  listed : Widened ℕ → List ℕ → Told

-- "a named number is not below next, or SeqNum or BaseSeqNum is below the first"; and where SeqNum or BaseSeqNum is unclear (document 02, W7)
abbrev pub up_to_answer : ℕ → ℕ → Widened ℕ → ℕ
up_to_answer firstdata next (At n) = first (test (ltb n firstdata) 8 ∷ test (leb next n) 8 ∷ [])
up_to_answer firstdata next (Below m) = 8
up_to_answer firstdata next Unclear = 8

abbrev pub listed_answer : ℕ → ℕ → Widened ℕ → List ℕ → ℕ
listed_answer firstdata next (At n) v = first (test (ltb n firstdata) 8 ∷ test (names_unsent (states_of v) n next) 8 ∷ [])
listed_answer firstdata next (Below m) v = 8
listed_answer firstdata next Unclear v = 8

unfoldable pub told_answer : Sender → Told → ℕ
told_answer s silent = 0
told_answer s (up_to a) = up_to_answer s.firstdata.0 s.next.0 a
told_answer s (listed a v) = listed_answer s.firstdata.0 s.next.0 a v

-- does it name number n?
abbrev pub names_up_to : Widened ℕ → ℕ → Bool
names_up_to (At m) n = leb n m
names_up_to (Below m) n = false
names_up_to Unclear n = false

abbrev pub names_listed : Widened ℕ → List ℕ → ℕ → Bool
names_listed (At m) v n = names v m n
names_listed (Below m) v n = false
names_listed Unclear v n = false

unfoldable pub told_names : Told → ℕ → Bool
told_names silent n = false
told_names (up_to a) n = names_up_to a n
told_names (listed a v) n = names_listed a v n

unfoldable pub told_of : ℕ → Sender → Told → Sender
told_of w s silent = s
told_of w s (up_to a) = cond (eqb (told_answer s (up_to a)) 0) (acknowledged_of w s (told_names (up_to a))) s
told_of w s (listed a v) = cond (eqb (told_answer s (listed a v)) 0) (acknowledged_of w s (told_names (listed a v))) s

-- what a packet of a datagram tells: each field "widened against .. the sender's next data number"
unfoldable pub told_by : Sender → List ℕ → Packet → Told
told_by s d p =
    cond (ack_in p.values.flags) (up_to (widen_of s.next.0 p.values.ack.number))
    (cond (vector_in p.values.flags) (listed (widen_of s.next.0 p.values.vector.base) (coded_in d p)) silent)

-- an accepted packet of type 0, whatever its flags: what it tells, and its LogWindowSize (document 02, W5: "the field of the last accepted data-type packet")
abbrev pub packet_told : ℕ → Sender → List ℕ → Packet → Sender
packet_told w s d p = remembering p.values.logwindow (told_of w s (told_by s d p))

unfoldable pub packet_of : ℕ → Sender → List ℕ → Packet → Sender
packet_of w s d p = cond (eqb (told_answer s (told_by s d p)) 0) (packet_told w s d p) s

-- one datagram into the sender's half: 13, then reading, then 8; a dummy changes nothing
unfoldable pub read_answer : Sender → List ℕ → Reading → ℕ
read_answer s d (Err n) = no_of n
read_answer s d (Ok None) = 0
read_answer s d (Ok (Some p)) = told_answer s (told_by s d p)

unfoldable pub read_into : ℕ → Sender → List ℕ → Reading → Sender
read_into w s d (Err n) = s
read_into w s d (Ok None) = s
read_into w s d (Ok (Some p)) = packet_of w s d p

unfoldable pub acknowledge_answer : ℕ → ℕ → Sender → List ℕ → ℕ
acknowledge_answer w cap s d = cond (consistent_of w cap s) (read_answer s d (read_of d)) 13

unfoldable pub acknowledge_of : ℕ → ℕ → Sender → List ℕ → Sender
acknowledge_of w cap s d = cond (consistent_of w cap s) (read_into w s d (read_of d)) s
