-- Worked examples of replays: refusals in the head, an opening out of range, and what an event's lines read as.
use Rattle.std.specs.Prelude.{false, List, [], ◌∷◌, ◌≡◌, refl}
use Rattle.common.specs.Every.{every}
use Rattle.common.specs.Order.{first}
use Rattle.text.specs.Ascii.{ascii}
use Rattle.text.specs.Decimal.{digits_by, decimal_of, value_from, value_of}
use Rattle.text.specs.Cases.{Case, case, Right}
use Rattle.trace.specs.Lines.{up_to, past, at_front, lines_of}
use Rattle.trace.specs.Words.{same, starts_with}
use Rattle.trace.specs.Numbers.{is_digit, all_digits, leading_zero, is_number, number_of, number_under, pair_of, first_of}
use Rattle.trace.specs.Hex.{is_hex, hex_value, all_hex, hex_good, hex_bytes}
use Rattle.trace.specs.Kinds.{kind_send, kind_sweep, kind_of, carries}
use Rattle.trace.specs.Read.{data_good, data_bytes, event, events, head_of, events_of}
use Rattle.endpoint.specs.Open.{open_answer}
use Rattle.replayer.specs.Replay.{head_replayed, replay_of}

unfoldable pub cases : List Case
cases =
    case (replay_of []) (ascii "answer=16\n")
    ∷ case (replay_of (ascii "format=counter-trace\nedition=2\nfirst=0,0\ntimeout=1000\n")) (ascii "answer=16\n")
    ∷ case (replay_of (ascii "format=counter-trace\nedition=1\nfirst=0,00\ntimeout=1000\n")) (ascii "answer=16\n")
    ∷ case (replay_of (ascii "format=counter-trace\nedition=1\nfirst=65536,0\ntimeout=1000\n")) (ascii "answer=15\n")
    ∷ case (replay_of (ascii "format=counter-trace\nedition=1\nfirst=0,0\ntimeout=299\ntick=0\n")) (ascii "answer=15\n")
    ∷ case (replay_of (ascii "format=counter-trace\nedition=1\nfirst=0,0\n")) (ascii "answer=16\n")
    ∷ []

pub cases_right : Right cases
unfolding cases replay_of head_replayed head_of lines_of at_front same starts_with number_under first_of pair_of up_to past number_of is_number all_digits is_digit leading_zero value_of value_from every open_answer first decimal_of digits_by
cases_right = (refl, (refl, (refl, (refl, (refl, (refl, tt))))))

-- two events, and a third that breaks off
pub events_read : events_of (lines_of (ascii "tick=5\nkind=send\ndata=0aff\ntick=6\nkind=sweep\ndata=\ntick=7\nkind=take")) ≡ events (event 5 kind_send (10 ∷ 255 ∷ []) ∷ event 6 kind_sweep [] ∷ []) false
unfolding events_of lines_of at_front number_under starts_with same number_of is_number all_digits is_digit leading_zero value_of value_from every kind_of first data_good hex_good all_hex is_hex carries data_bytes hex_bytes hex_value
events_read = refl
