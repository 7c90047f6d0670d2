-- "at the end the full record as key=value lines, their order fixed in docs/": the sender's half, then the receiver's, each field under its name and then
-- place by place. Every value is a decimal number, and several are separated by commas.
use Rattle.std.specs.Prelude.{ℕ, zero, suc, List, [], ◌∷◌, ◌++◌, get_or}
use Prim.Native.String.{String}
use Rattle.common.specs.Put.{joined}
use Rattle.text.specs.Ascii.{ascii}
use Rattle.text.specs.Decimal.{decimal_of}
use Rattle.text.specs.Lines.{line, comma}
use Rattle.sender.specs.declared.Sender.{Sender}
use Rattle.sender.specs.declared.NumberPlace.{NumberPlace}
use Rattle.sender.specs.declared.BlockPlace.{BlockPlace}
use Rattle.sender.specs.Record.{no_number, no_block}
use Rattle.receiver.specs.declared.Receiver.{Receiver}
use Rattle.receiver.specs.declared.Hold.{Hold}
use Rattle.receiver.specs.Record.{empty}

-- the line of a place: its key ends with the place's number
abbrev pub place_line : String → ℕ → List ℕ → List ℕ
place_line key i value = joined (ascii key ∷ decimal_of i ∷ ascii "=" ∷ value ∷ ascii "\n" ∷ [])

-- the texts of all places below n, in turn
unfoldable pub all_places : (ℕ → List ℕ) → ℕ → List ℕ
all_places f zero = []
all_places f (suc n) = all_places f n ++ f n

-- the sender's places: state, channel number and tick of a data number; state, length and sends of a block
unfoldable pub number_line : ℕ → NumberPlace → List ℕ
number_line i p =
    place_line "sender.number" i (comma (decimal_of p.state) (comma (decimal_of p.channel.0) (decimal_of p.tick)))

unfoldable pub block_line : ℕ → BlockPlace → List ℕ
block_line i b =
    place_line "sender.block" i (comma (decimal_of b.state) (comma (decimal_of b.length) (decimal_of b.sends)))

unfoldable pub sender_place : Sender → ℕ → List ℕ
sender_place s i = number_line i (get_or s.numbers i no_number) ++ block_line i (get_or s.blocks i no_block)

-- the receiver's places: whether a data number is received; whether a block is held, and its length
unfoldable pub mark_line : ℕ → ℕ → List ℕ
mark_line i m = place_line "receiver.mark" i (decimal_of m)

unfoldable pub hold_line : ℕ → Hold → List ℕ
hold_line i h = place_line "receiver.hold" i (comma (decimal_of h.held) (decimal_of h.length))

unfoldable pub receiver_place : Receiver → ℕ → List ℕ
receiver_place r i = mark_line i (get_or r.marks i 0) ++ hold_line i (get_or r.holds i empty)

-- a half's single fields
unfoldable pub sender_fields : Sender → List ℕ
sender_fields s =
    joined
    (line "sender.firstdata" (decimal_of s.firstdata.0)
    ∷ line "sender.firstchannel" (decimal_of s.firstchannel.0)
    ∷ line "sender.timeout" (decimal_of s.timeout)
    ∷ line "sender.logwindow" (decimal_of s.logwindow)
    ∷ line "sender.low" (decimal_of s.low.0)
    ∷ line "sender.next" (decimal_of s.next.0)
    ∷ line "sender.channellow" (decimal_of s.channellow.0)
    ∷ line "sender.channelnext" (decimal_of s.channelnext.0)
    ∷ [])

unfoldable pub receiver_fields : Receiver → List ℕ
receiver_fields r =
    joined
    (line "receiver.firstdata" (decimal_of r.firstdata.0)
    ∷ line "receiver.firstchannel" (decimal_of r.firstchannel.0)
    ∷ line "receiver.base" (decimal_of r.base.0)
    ∷ line "receiver.end" (decimal_of r.end.0)
    ∷ line "receiver.due" (decimal_of r.due.0)
    ∷ [])

-- both halves
unfoldable pub record_text : Sender → Receiver → List ℕ
record_text s r = joined (sender_fields s ∷ all_places (sender_place s) 32 ∷ receiver_fields r ∷ all_places (receiver_place r) 32 ∷ [])
