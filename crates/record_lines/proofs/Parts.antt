-- The lines of a replay, in the parts that are written one after the other.
use Prim.Native.Nat.{ℕ, ◌+◌, ◌≤◌}
use mathlib.Core.Bool.{Bool, true, false}
use mathlib.Core.List.{List, [], ◌++◌, append_assoc, append-nil}
use mathlib.Core.Path.{◌≡◌, refl}
use native.Mathlib.Omega.{arith}
use native.Mathlib.Numerals.{add-one}
use borrow.Author.Tests.{ne_eqb}
use lib.ListN.{length}
use Rattle.common.specs.Laid.{laid_nothing}
use Rattle.text.specs.Ascii.{ascii}
use Rattle.text.specs.Decimal.{decimal_of, digits_by}
use Rattle.text.specs.Lines.{between}
use Rattle.text.specs.Within.{LaidWithin, within, within_length}
use Rattle.sender.specs.declared.Sender.{Sender}
use Rattle.sender.specs.declared.NumberPlace.{NumberPlace}
use Rattle.sender.specs.declared.BlockPlace.{BlockPlace}
use Rattle.receiver.specs.declared.Receiver.{Receiver}
use Rattle.receiver.specs.declared.Hold.{Hold}
use Rattle.record_lines.specs.AnswerLine.{answer_line}
use Rattle.record_lines.specs.Record.{number_line, block_line, sender_place, mark_line, hold_line, receiver_place, all_places, sender_fields, receiver_fields, record_text}

-- the line of a place
pub number_parts : (i : ℕ) (p : NumberPlace)
    → between (ascii "sender.number") i (ascii "=")
    ++ (between [] p.state (ascii ",")
    ++ (between [] p.channel.0 (ascii ",")
    ++ between [] p.tick (ascii "\n")))
    ≡ number_line i p
unfolding number_line
number_parts i p = simp (append_assoc, append-nil)

pub block_parts : (i : ℕ) (b : BlockPlace)
    → between (ascii "sender.block") i (ascii "=")
    ++ (between [] b.state (ascii ",")
    ++ (between [] b.length (ascii ",")
    ++ between [] b.sends (ascii "\n")))
    ≡ block_line i b
unfolding block_line
block_parts i b = simp (append_assoc, append-nil)

pub mark_parts : (i m : ℕ) → between (ascii "receiver.mark") i (ascii "=") ++ between [] m (ascii "\n") ≡ mark_line i m
unfolding mark_line
mark_parts i m = simp (append_assoc, append-nil)

pub hold_parts : (i : ℕ) (h : Hold)
    → between (ascii "receiver.hold") i (ascii "=") ++ (between [] h.held (ascii ",") ++ between [] h.length (ascii "\n")) ≡ hold_line i h
unfolding hold_line
hold_parts i h = simp (append_assoc, append-nil)

-- the single fields
pub sender_parts : (s : Sender)
    → between (ascii "sender.firstdata=") s.firstdata.0 (ascii "\n")
    ++ (between (ascii "sender.firstchannel=") s.firstchannel.0 (ascii "\n")
    ++ (between (ascii "sender.timeout=") s.timeout (ascii "\n")
    ++ (between (ascii "sender.logwindow=") s.logwindow (ascii "\n")
    ++ (between (ascii "sender.low=") s.low.0 (ascii "\n")
    ++ (between (ascii "sender.next=") s.next.0 (ascii "\n")
    ++ (between (ascii "sender.channellow=") s.channellow.0 (ascii "\n")
    ++ between (ascii "sender.channelnext=") s.channelnext.0 (ascii "\n")))))))
    ≡ sender_fields s
unfolding sender_fields
sender_parts s = simp (append_assoc, append-nil)

pub receiver_parts : (r : Receiver)
    → between (ascii "receiver.firstdata=") r.firstdata.0 (ascii "\n")
    ++ (between (ascii "receiver.firstchannel=") r.firstchannel.0 (ascii "\n")
    ++ (between (ascii "receiver.base=") r.base.0 (ascii "\n")
    ++ (between (ascii "receiver.end=") r.end.0 (ascii "\n")
    ++ between (ascii "receiver.due=") r.due.0 (ascii "\n"))))
    ≡ receiver_fields r
unfolding receiver_fields
receiver_parts r = simp (append_assoc, append-nil)

-- the line of an answer, a law for each way to it
pub answer_lost : {sweep : Bool} {n : ℕ} (k : ℕ) → sweep ≡ true → n ≡ 0 → between (ascii "answer=0,") k (ascii "\n") ≡ answer_line sweep n k
unfolding answer_line decimal_of digits_by
answer_lost k s z = simp (s, z, append-nil)

pub answer_refused : {n : ℕ} (sweep : Bool) (k : ℕ) → (n ≡ 0 → ⊥) → between (ascii "answer=") n (ascii "\n") ≡ answer_line sweep n k
unfolding answer_line
answer_refused {n} true k z = simp (ne_eqb n 0 z)
answer_refused {n} false k z = refl

pub answer_plain : {sweep : Bool} (n k : ℕ) → sweep ≡ false → between (ascii "answer=") n (ascii "\n") ≡ answer_line sweep n k
unfolding answer_line
answer_plain n k s = simp s

-- what the first part left has room for the second
pub room_left : {k at r : ℕ} {b d e : List ℕ} (m : ℕ) → at + (k + m) ≤ length d → LaidWithin k b d at e r → r + m ≤ length e
room_left m h l = omega (arith, within_length (omega arith) l, l.room)

-- the places below n
pub places_none : (f : ℕ → List ℕ) (d : List ℕ) (at : ℕ) → LaidWithin 0 (all_places f 0) d at d at
unfolding all_places
places_none f d at = within 0 (omega arith) (laid_nothing d at)

pub places_more : (f : ℕ → List ℕ) (n : ℕ) → all_places f n ++ f n ≡ all_places f (n + 1)
unfolding all_places
places_more f n = rw add-one refl

-- both halves
pub record_parts : (s : Sender) (r : Receiver)
    → sender_fields s ++ (all_places (sender_place s) 32 ++ (receiver_fields r ++ all_places (receiver_place r) 32)) ≡ record_text s r
unfolding record_text
record_parts s r = simp append-nil
