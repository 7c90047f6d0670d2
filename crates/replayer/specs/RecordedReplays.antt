-- A morning that was recorded replays as it went: what the trace's writer writes of an accepted opening and of events, replayed, gives the answers that the
-- same calls give one by one from a fresh endpoint, and the record that they leave.
use Rattle.std.specs.Prelude.{ℕ, ◌≤◌, List, ◌++◌, ◌≡◌, length}
use Rattle.std.proofs.Common.{append-nil, ap, arith, eq-eqb, le-ltb}
use Rattle.trace.specs.Read.{Event}
use Rattle.trace.specs.Write.{trace_text}
use Rattle.trace.specs.ReadsBack.{AllGood, trace_reads_back}
use Rattle.endpoint.specs.Open.{open_answer}
use Rattle.endpoint.specs.Calls.{Endpoint, calls_of}
use Rattle.endpoint.specs.Fresh.{fresh_of}
use Rattle.endpoint.specs.Keeps.{opened}
use Rattle.calling.specs.Asks.{calls_for}
use Rattle.answering.specs.Answers.{answers_for}
use Rattle.replayer.specs.Replay.{record_of, blank_store, events_replayed, head_replayed, replay_of}

-- the endpoint that the recorded one was at its opening
abbrev pub at_opening : ℕ → ℕ → ℕ → Endpoint
at_opening d c t = fresh_of 32 d c t blank_store blank_store

pub recorded_replays : (d c t : ℕ) {es : List Event} → open_answer d c t ≡ 0 → AllGood es
    → length (trace_text d c t es) ≤ 65536
    → replay_of (trace_text d c t es) ≡ answers_for (at_opening d c t) (calls_for es) ++ record_of (calls_of 32 32 (at_opening d c t) (calls_for es))
unfolding replay_of head_replayed events_replayed
recorded_replays d c t {es} o g h =
    let k = opened d c t o in
    let back = trace_reads_back d c t (omega (arith, k.number)) (omega (arith, k.channel)) (omega (arith, k.longest)) g in
    rw (le-ltb _ _ h, back.0, eq-eqb _ _ o, back.1)
    (ap (λ (x : List ℕ). answers_for (at_opening d c t) (calls_for es) ++ x) (append-nil (record_of (calls_of 32 32 (at_opening d c t) (calls_for es)))))
