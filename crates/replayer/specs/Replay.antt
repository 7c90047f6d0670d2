-- The replay of a trace: "Replay starts from a fresh endpoint and writes one `answer=` line per event .. and at the end the full record". "Refusals: 16 for a
-- line out of order, badly written or missing at the end: its `answer=` line, then the record so far, if any; `answer=15` alone for opening values out of
-- range; `answer=16` alone for a trace over 64 KiB."
use Rattle.std.specs.Prelude.{ℕ, cond, List, [], ◌∷◌, length, replicate, eqb, ltb}
use Rattle.common.specs.Put.{joined}
use Rattle.window.specs.Store.{store_size}
use Rattle.trace.specs.Lines.{lines_of}
use Rattle.trace.specs.Read.{Head, no_head, head, head_of, Events, events_of}
use Rattle.endpoint.specs.Open.{open_answer}
use Rattle.endpoint.specs.Calls.{Endpoint, calls_of}
use Rattle.endpoint.specs.Fresh.{fresh_of}
use Rattle.record_lines.specs.Record.{record_text}
use Rattle.calling.specs.Asks.{calls_for}
use Rattle.answering.specs.Answers.{refusal, answers_for}

-- the full record of an endpoint
abbrev pub record_of : Endpoint → List ℕ
record_of e = record_text e.halves.sender e.halves.receiver

-- the stores before the first event
abbrev pub blank_store : List ℕ
blank_store = replicate (store_size 32) 0

-- the events' answers, 16 where a line ends them, and the record that the calls leave
unfoldable pub events_replayed : Endpoint → Events → List ℕ
events_replayed e x =
    joined
    (answers_for e (calls_for x.events)
    ∷ cond x.whole [] (refusal 16)
    ∷ record_of (calls_of 32 32 e (calls_for x.events))
    ∷ [])

unfoldable pub head_replayed : Head → List ℕ
head_replayed no_head = refusal 16
head_replayed (head d c t ls) =
    cond (eqb (open_answer d c t) 0) (events_replayed (fresh_of 32 d c t blank_store blank_store) (events_of ls))
    (refusal (open_answer d c t))

unfoldable pub replay_of : List ℕ → List ℕ
replay_of t = cond (ltb 65536 (length t)) (refusal 16) (head_replayed (head_of (lines_of t)))
