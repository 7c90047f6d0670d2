-- What the calls of an endpoint did to its sending, as a history, newest first; and what it is for that history to account for every block (document 02, W11).
use Rattle.std.specs.Prelude.{ℕ, suc, ◌+◌, ◌≤◌, ◌<◌, Bool, true, false, cond, not, ◌||◌, List, [], ◌∷◌, ◌++◌, ◌⊎◌, ◌≡◌, eqb, Ok, Some}
use Rattle.std.proofs.Math.Option.{Option, none, some}
use Rattle.common.specs.Every.{count_below}
use Rattle.common.specs.CountLaws.{one}
use Rattle.wire.specs.declared.Packet.{Packet}
use Rattle.wire.specs.Read.{read_of}
use Rattle.sender.specs.declared.Sender.{Sender}
use Rattle.sender.specs.Record.{most_sends, block_at}
use Rattle.sender.specs.Acknowledge.{told_names, told_by}
use Rattle.sender.specs.Tells.{tells}
use Rattle.sender.specs.Send.{lowest_waiting}
use Rattle.sender.specs.Sweep.{loses_at}
use Rattle.sender.specs.Run.{has_acknowledged}
use Rattle.sender.specs.States.{has_in_flight, has_waiting, has_pending}
use Rattle.endpoint.specs.Calls.{Endpoint, Call, receives, takes, acknowledges, sends, resends, sweeps, answer_of, call_of, calls_of}

-- Block `channel` went out under data number `number`, as a new block or again. A datagram was accepted that names these numbers. A sweep was accepted that loses these
-- numbers, so far as they are pending.
pub data Entry : Type 0 where
  sent : (again : Bool) (number channel : ℕ) → Entry
  told : (names : ℕ → Bool) → Entry
  swept : (loses : ℕ → Bool) → Entry

-- a resend takes the waiting block that was found
abbrev pub resent_as : ℕ → Option ℕ → List Entry
resent_as n none = []
resent_as n (some c) = sent true n c ∷ []

-- What a call adds if it is accepted. The numbers that a datagram names are read from its bytes, and widened against next. Which block a resend sends, and which numbers a
-- sweep loses, are judged on the record at entry, as document 01 has it; so are the number and the block of a transmission, which InOrder below counts from the firsts.
unfoldable pub entries_of : ℕ → Endpoint → Call → List Entry
entries_of w e (receives d) = told (told_names (tells e.halves.sender d (read_of d))) ∷ []
entries_of w e (takes room) = []
entries_of w e (acknowledges stamp gap room) = []
entries_of w e (sends tick block room) = sent false e.halves.sender.next.0 e.halves.sender.channelnext.0 ∷ []
entries_of w e (resends tick room) = resent_as e.halves.sender.next.0 (lowest_waiting w e.halves.sender)
entries_of w e (sweeps tick) = swept (loses_at w e.halves.sender tick) ∷ []

-- a refused call adds nothing
unfoldable pub added_by : ℕ → ℕ → Endpoint → Call → List Entry
added_by w cap e c = cond (eqb (answer_of w cap e c) 0) (entries_of w e c) []

-- the history that calls make of an earlier one, each given what the one before left
unfoldable pub history_of : ℕ → ℕ → List Entry → Endpoint → List Call → List Entry
history_of w cap h e [] = h
history_of w cap h e (c ∷ cs) = history_of w cap (added_by w cap e c ++ h) (call_of w cap e c) cs

-- how many entries pass a test, and whether one does
unfoldable pub count_in : (Entry → Bool) → List Entry → ℕ
count_in p [] = 0
count_in p (x ∷ h) = cond (p x) (suc (count_in p h)) (count_in p h)

unfoldable pub any_in : (Entry → Bool) → List Entry → Bool
any_in p [] = false
any_in p (x ∷ h) = p x || any_in p h

-- a new block; any transmission
abbrev pub is_new : Entry → Bool
is_new (sent again n c) = not again
is_new (told f) = false
is_new (swept f) = false

abbrev pub is_transmission : Entry → Bool
is_transmission (sent again n c) = true
is_transmission (told f) = false
is_transmission (swept f) = false

-- a transmission of block c; one that sends it again; one under a number that passes a test
abbrev pub transmits : ℕ → Entry → Bool
transmits c (sent again n d) = eqb d c
transmits c (told f) = false
transmits c (swept f) = false

abbrev pub retransmits : ℕ → Entry → Bool
retransmits c (sent again n d) = cond again (eqb d c) false
retransmits c (told f) = false
retransmits c (swept f) = false

abbrev pub transmits_under : (ℕ → Bool) → ℕ → Entry → Bool
transmits_under p c (sent again n d) = cond (eqb d c) (p n) false
transmits_under p c (told f) = false
transmits_under p c (swept f) = false

-- "the accepted new-block calls in the history"; all transmissions; "the block's sends in the history", and the resends among them
abbrev pub new_in : List Entry → ℕ
new_in h = count_in is_new h

abbrev pub transmissions_in : List Entry → ℕ
transmissions_in h = count_in is_transmission h

abbrev pub sends_in : List Entry → ℕ → ℕ
sends_in h c = count_in (transmits c) h

abbrev pub resends_in : List Entry → ℕ → ℕ
resends_in h c = count_in (retransmits c) h

-- a transmission is pending from the moment it goes out until an accepted datagram names its number or an accepted sweep loses it
unfoldable pub pending_in : List Entry → ℕ → Bool
pending_in [] n = false
pending_in (sent again m c ∷ h) n = eqb m n || pending_in h n
pending_in (told f ∷ h) n = cond (f n) false (pending_in h n)
pending_in (swept f ∷ h) n = cond (f n) false (pending_in h n)

-- named, and pending until then
abbrev pub names_pending : (ℕ → Bool) → List Entry → ℕ → Bool
names_pending f h n = cond (f n) (pending_in h n) false

-- "Acknowledged here means that some accepted acknowledgement named a transmission of it while that was pending."
unfoldable pub acknowledged_in : List Entry → ℕ → Bool
acknowledged_in [] c = false
acknowledged_in (sent again n d ∷ h) c = acknowledged_in h c
acknowledged_in (told f ∷ h) c = any_in (transmits_under (names_pending f h) c) h || acknowledged_in h c
acknowledged_in (swept f ∷ h) c = acknowledged_in h c

-- a transmission of it is pending
abbrev pub in_flight_in : List Entry → ℕ → Bool
in_flight_in h c = any_in (transmits_under (pending_in h) c) h

-- block c has gone out under data number n
abbrev pub Gone : ℕ → ℕ → List Entry → Type 0
Gone n c [] = ⊥
Gone n c (sent again m d ∷ h) = ((n ≡ m) × (c ≡ d)) ⊎ Gone n c h
Gone n c (told f ∷ h) = Gone n c h
Gone n c (swept f ∷ h) = Gone n c h

-- Numbers are given in order: the k-th transmission has the k-th data number, counted from 0, and the k-th new block the k-th channel number; what is sent again was sent.
abbrev pub InTurn : Bool → ℕ → ℕ → ℕ → Type 0
InTurn false first new c = c ≡ first + new
InTurn true first new c = (first ≤ c) × (c < first + new)

abbrev pub InOrder : ℕ → ℕ → List Entry → Type 0
InOrder firstdata firstchannel [] = Unit {0}
InOrder firstdata firstchannel (sent again n c ∷ h) =
    (n ≡ firstdata + transmissions_in h) × InTurn again firstchannel (new_in h) c × InOrder firstdata firstchannel h
InOrder firstdata firstchannel (told f ∷ h) = InOrder firstdata firstchannel h
InOrder firstdata firstchannel (swept f ∷ h) = InOrder firstdata firstchannel h

-- A history accounts for every block, and a sender's record says the same. The blocks "ever accepted for sending" are first + k, for k below the number of new blocks.
pub record Accounted (w firstdata firstchannel : ℕ) (h : List Entry) (s : Sender) : Type 0 where
  pub in_order : InOrder firstdata firstchannel h
  pub next : s.next.0 ≡ firstdata + transmissions_in h
  pub next_channel : s.channelnext.0 ≡ firstchannel + new_in h
  -- "each block ever accepted for sending is exactly one of acknowledged, in flight or waiting"
  pub exactly_one : (k : ℕ) → k < new_in h
      → one (acknowledged_in h (firstchannel + k)) + one (has_in_flight w s (firstchannel + k)) + one (has_waiting w s (firstchannel + k)) ≡ 1
  -- "the three numbers add up to the accepted new-block calls in the history"
  pub add_up : count_below (λ k. acknowledged_in h (firstchannel + k)) (new_in h) + count_below (λ k. has_in_flight w s (firstchannel + k)) (new_in h)
      + count_below (λ k. has_waiting w s (firstchannel + k)) (new_in h) ≡ new_in h
  -- "each count is the block's sends in the history": a block's place has them, until channel low passes it; they are its first and its resends
  pub counted : (k : ℕ) → k < new_in h → s.channellow.0 ≤ firstchannel + k → (block_at w s (firstchannel + k)).sends ≡ sends_in h (firstchannel + k)
  pub resent : (k : ℕ) → k < new_in h → sends_in h (firstchannel + k) ≡ 1 + resends_in h (firstchannel + k)
  -- "no count exceeds 6"
  pub limit : (c : ℕ) → sends_in h c ≤ most_sends
  -- the record says the same as the history of what is acknowledged, in flight and pending; what channel low has passed is acknowledged
  pub says_acknowledged : (k : ℕ) → k < new_in h → has_acknowledged w s (firstchannel + k) ≡ acknowledged_in h (firstchannel + k)
  pub says_passed : (k : ℕ) → firstchannel + k < s.channellow.0 → acknowledged_in h (firstchannel + k) ≡ true
  pub says_in_flight : (k : ℕ) → k < new_in h → has_in_flight w s (firstchannel + k) ≡ in_flight_in h (firstchannel + k)
  pub says_pending : (n : ℕ) → has_pending w s n ≡ pending_in h n

-- Once more what acknowledged means, by moments: among calls cs, from an endpoint e with history h, a datagram is accepted that reads as a packet and names a number; at that
-- moment block c has gone out under the number, and it is pending.
pub record NamedWhilePending (w cap : ℕ) (h : List Entry) (e : Endpoint) (cs : List Call) (c : ℕ) : Type 0 where
  pub before : List Call
  pub datagram : List ℕ
  pub later : List Call
  pub splits : cs ≡ before ++ receives datagram ∷ later
  pub accepted : answer_of w cap (calls_of w cap e before) (receives datagram) ≡ 0
  pub packet : Packet
  pub reads : read_of datagram ≡ Ok (Some packet)
  pub number : ℕ
  pub names : told_names (told_by (calls_of w cap e before).halves.sender datagram packet) number ≡ true
  pub transmission : Gone number c (history_of w cap h e before)
  pub pends : pending_in (history_of w cap h e before) number ≡ true
