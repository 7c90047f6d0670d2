-- The same line by line: what stands between two lines is a value, and a line's step takes it to the next. `LineByLine` shows that the steps over all lines
-- give the replay.
use Rattle.std.specs.Prelude.{ℕ, Bool, true, false, cond, List, [], ◌∷◌, ◌++◌, eqb, ltb, leb}
use Rattle.trace.specs.declared.Cursor.{Cursor}
use Rattle.trace.specs.Read.{timeout_due, tick_due, data_due, broken, fresh_cursor, due_of, next_of, behind_data, data_good, data_bytes}
use Rattle.receiver.specs.declared.Receiver.{Receiver}
use Rattle.sender.specs.declared.Sender.{Sender}
use Rattle.endpoint.specs.Open.{Opens, fresh_pair, opened_of}
use Rattle.endpoint.specs.Calls.{Endpoint, Call, call_of}
use Rattle.endpoint.specs.Fresh.{endpoint_of}
use Rattle.calling.specs.Asks.{call_by}
use Rattle.answering.specs.Answers.{answer_for}
use Rattle.record_lines.specs.Record.{record_text}
use Rattle.answering.specs.Answers.{refusal}

-- which line is due, and the endpoint
pub record Machine : Type 0 where
  pub cursor : Cursor
  pub endpoint : Endpoint

abbrev pub machine : Cursor → Endpoint → Machine
machine c e = record { cursor = c; endpoint = e }

-- before the first line nothing is opened
abbrev pub begun : List ℕ → List ℕ → Machine
begun store sent = machine fresh_cursor (endpoint_of (fresh_pair 32 0 0 0 0) store sent)

-- a line of data
unfoldable pub data_read : Cursor → List ℕ → Bool
data_read c l = cond (eqb c.due data_due) (data_good c.kind l) false

abbrev pub call_at : Cursor → List ℕ → Call
call_at c l = call_by c.kind c.tick (data_bytes l)

unfoldable pub called : Machine → List ℕ → Machine
called m l =
    cond (data_good m.cursor.kind l) (machine (behind_data m.cursor true) (call_of 32 32 m.endpoint (call_at m.cursor l)))
    (machine (behind_data m.cursor false) m.endpoint)

-- none is due, since opening was refused
abbrev pub unopened : ℕ
unopened = 9

-- the head's last line opens the endpoint
unfoldable pub opened_by : Cursor → Opens → ℕ
opened_by c o = cond (eqb o.answer 0) c.due unopened

abbrev pub open_with : Cursor → Opens
open_with c = opened_of 32 c.firstdata c.firstchannel c.timeout

-- does the line between these two open the endpoint?
unfoldable pub opens_at : ℕ → ℕ → Bool
opens_at due after = cond (eqb due timeout_due) (eqb after tick_due) false

unfoldable pub opening : Machine → Cursor → Machine
opening m c =
    cond (eqb c.due tick_due)
    (machine (due_of c (opened_by c (open_with c))) (endpoint_of (open_with c) m.endpoint.halves.store m.endpoint.sent))
    (machine c m.endpoint)

-- one line
unfoldable pub step_of : Machine → List ℕ → Machine
step_of m l =
    cond (eqb m.cursor.due data_due) (called m l)
    (cond (eqb m.cursor.due timeout_due) (opening m (next_of m.cursor l)) (machine (next_of m.cursor l) m.endpoint))

-- and what it writes
unfoldable pub step_text : Machine → List ℕ → List ℕ
step_text m l = cond (data_read m.cursor l) (answer_for m.endpoint (call_at m.cursor l)) []

-- what is written behind the last line, by the line that is due: the record alone where an event may follow; else the refusal, and the record where there is one
unfoldable pub end_for : ℕ → Sender → Receiver → List ℕ
end_for due s r =
    cond (eqb due tick_due) (record_text s r)
    (cond (eqb due unopened) (refusal 15) (cond (ltb due tick_due) (refusal 16) (cond (leb due broken) (refusal 16 ++ record_text s r) (refusal 16))))

unfoldable pub end_text : Machine → List ℕ
end_text m = end_for m.cursor.due m.endpoint.halves.sender m.endpoint.halves.receiver

unfoldable pub run_of : Machine → List (List ℕ) → List ℕ
run_of m [] = end_text m
run_of m (l ∷ ls) = step_text m l ++ run_of (step_of m l) ls
