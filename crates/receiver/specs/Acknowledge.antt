-- Write acknowledgement: "if end is at most base, an ACK for base − 1 with the caller's time stamp modulo 2^24 and gap, n and scale 0; 11 if base is still
-- the first number. Otherwise a vector without time stamp from base to end − 1".
use Rattle.std.specs.Prelude.{ℕ, zero, suc, ◌+◌, ◌-◌, ◌%◌, ◌^◌, Bool, false, cond, not, List, [], ◌∷◌, length, eqb, leb, ltb}
use Rattle.common.specs.Order.{Test, test, first}
use Rattle.vector.specs.Rule.{vector_of}
use Rattle.wire.specs.declared.Values.{Values}
use Rattle.wire.specs.Layout.{log_window, no_ack, no_delay, no_vector}
use Rattle.wire.specs.Write.{datagram_of}
use Rattle.receiver.specs.declared.Receiver.{Receiver}
use Rattle.receiver.specs.Record.{is_marked, mark_at}
use Rattle.receiver.specs.Consistent.{consistent_of}

-- the states of k numbers from n on
unfoldable pub states_from : ℕ → Receiver → ℕ → ℕ → List Bool
states_from w r n zero = []
states_from w r n (suc k) = is_marked (mark_at w r n) ∷ states_from w r (n + 1) k

-- "from base to end − 1"
unfoldable pub states_of : ℕ → Receiver → List Bool
states_of w r = states_from w r r.base.0 (r.end.0 - r.base.0)

abbrev pub all_there : Receiver → Bool
all_there r = leb r.end.0 r.base.0

-- "The endpoint writes LogWindowSize 5"
abbrev pub ack_values : Receiver → ℕ → ℕ → Values
ack_values r stamp gap =
    record {
      flags = 0x001;
      logwindow = log_window;
      ack = record { number = (r.base.0 - 1) % 65536; time = stamp % 2 ^ 24; gap = gap; count = 0; scale = 0 };
      overhead = 0;
      delay = no_delay;
      aoa = 0;
      number = 0;
      vector = no_vector;
      channel = 0;
    }

abbrev pub vector_values : ℕ → Receiver → Values
vector_values w r =
    record {
      flags = 0x008;
      logwindow = log_window;
      ack = no_ack;
      overhead = 0;
      delay = no_delay;
      aoa = 0;
      number = 0;
      vector = record { base = r.base.0 % 65536; size = length (vector_of (states_of w r)); timed = false; time = 0; gap = 0 };
      channel = 0;
    }

-- the datagram to write
unfoldable pub acknowledgement_of : ℕ → Receiver → ℕ → ℕ → List ℕ
acknowledgement_of w r stamp gap =
    cond (all_there r) (datagram_of (ack_values r stamp gap) [] [] []) (datagram_of (vector_values w r) [] (vector_of (states_of w r)) [])

-- "write acknowledgement: 13, 11, 14"
abbrev pub acknowledge_tests : ℕ → ℕ → Receiver → ℕ → ℕ → ℕ → List Test
acknowledge_tests w cap r stamp gap room =
    test (not (consistent_of w cap r)) 13
    ∷ test (cond (all_there r) (eqb r.base.0 r.firstdata.0) false) 11
    ∷ test (ltb room (length (acknowledgement_of w r stamp gap))) 14
    ∷ []

unfoldable pub acknowledge_answer : ℕ → ℕ → Receiver → ℕ → ℕ → ℕ → ℕ
acknowledge_answer w cap r stamp gap room = first (acknowledge_tests w cap r stamp gap room)
