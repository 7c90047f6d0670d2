-- A trace, written: the head, and one event after another.
use Rattle.std.specs.Prelude.{ℕ, Bool, true, cond, not, List, [], ◌∷◌, ◌++◌, length, eqb, ltb}
use Rattle.common.specs.Every.{every}
use Rattle.common.specs.Order.{test, first}
use Rattle.common.specs.Put.{joined}
use Rattle.text.specs.Ascii.{ascii}
use Rattle.text.specs.Decimal.{decimal_of}
use Rattle.text.specs.Lines.{line, comma}
use Rattle.trace.specs.Hex.{hex_text}
use Rattle.trace.specs.Kinds.{is_kind, kind_text, carries}
use Rattle.trace.specs.Read.{Event}

unfoldable pub head_text : ℕ → ℕ → ℕ → List ℕ
head_text firstdata firstchannel timeout =
    joined
    (ascii "format=counter-trace\n"
    ∷ ascii "edition=1\n"
    ∷ line "first" (comma (decimal_of firstdata) (decimal_of firstchannel))
    ∷ line "timeout" (decimal_of timeout)
    ∷ [])

-- an event's lines up to its bytes
unfoldable pub lead_text : ℕ → ℕ → List ℕ
lead_text tick kind = joined (line "tick" (decimal_of tick) ∷ line "kind" (kind_text kind) ∷ ascii "data=" ∷ [])

unfoldable pub event_text : ℕ → ℕ → List ℕ → List ℕ
event_text tick kind bytes = joined (line "tick" (decimal_of tick) ∷ line "kind" (kind_text kind) ∷ line "data" (hex_text bytes) ∷ [])

-- an event that can be written: one of the six kinds, and data only where the kind has some
unfoldable pub event_good : ℕ → ℕ → Bool
event_good kind size = every (is_kind kind ∷ cond (carries kind) true (eqb size 0) ∷ [])

-- 16 for an event that would be badly written, then 14
unfoldable pub event_answer : ℕ → ℕ → List ℕ → ℕ → ℕ
event_answer tick kind bytes room =
    first (test (not (event_good kind (length bytes))) 16 ∷ test (ltb room (length (event_text tick kind bytes))) 14 ∷ [])

-- a whole morning
unfoldable pub events_text : List Event → List ℕ
events_text [] = []
events_text (e ∷ es) = event_text e.tick e.kind e.bytes ++ events_text es

unfoldable pub trace_text : ℕ → ℕ → ℕ → List Event → List ℕ
trace_text firstdata firstchannel timeout es = head_text firstdata firstchannel timeout ++ events_text es
