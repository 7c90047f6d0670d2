-- "`kind=` (in, send, resend, take, sweep, ack)", by number from 1 on; 0 is none.
use Rattle.std.specs.Prelude.{ℕ, Bool, true, cond, List, [], ◌∷◌, eqb, leb}
use Rattle.common.specs.Every.{every}
use Rattle.common.specs.Order.{test, first}
use Rattle.text.specs.Ascii.{ascii}
use Rattle.trace.specs.Words.{same}

abbrev pub kind_in : ℕ
kind_in = 1

abbrev pub kind_send : ℕ
kind_send = 2

abbrev pub kind_resend : ℕ
kind_resend = 3

abbrev pub kind_take : ℕ
kind_take = 4

abbrev pub kind_sweep : ℕ
kind_sweep = 5

abbrev pub kind_ack : ℕ
kind_ack = 6

-- the kind that a line names
unfoldable pub kind_of : List ℕ → ℕ
kind_of l =
    first
    (test (same l (ascii "kind=in")) kind_in
    ∷ test (same l (ascii "kind=send")) kind_send
    ∷ test (same l (ascii "kind=resend")) kind_resend
    ∷ test (same l (ascii "kind=take")) kind_take
    ∷ test (same l (ascii "kind=sweep")) kind_sweep
    ∷ test (same l (ascii "kind=ack")) kind_ack
    ∷ [])

-- its word
unfoldable pub kind_text : ℕ → List ℕ
kind_text k =
    cond (eqb k kind_in) (ascii "in")
    (cond (eqb k kind_send) (ascii "send")
    (cond (eqb k kind_resend) (ascii "resend") (cond (eqb k kind_take) (ascii "take") (cond (eqb k kind_sweep) (ascii "sweep") (ascii "ack")))))

unfoldable pub is_kind : ℕ → Bool
is_kind k = every (leb kind_in k ∷ leb k kind_ack ∷ [])

-- does an event of this kind have data? "empty where the kind has none"
unfoldable pub carries : ℕ → Bool
carries k = cond (eqb k kind_in) true (eqb k kind_send)
