-- What the writer writes the reader reads back to the same head and events.
use Rattle.std.specs.Prelude.{ℕ, ◌<◌, true, List, [], ◌∷◌, ◌++◌, ◌≡◌, refl, length, get_or}
use Rattle.std.proofs.Common.{◌∙◌, ap}
use Rattle.trace.specs.Lines.{lines_of}
use Rattle.trace.specs.Read.{Event, head, events, and_then, head_of, events_of}
use Rattle.trace.specs.Write.{head_text, event_good, events_text, trace_text}
use Rattle.trace.specs.ReadsBackLaws.{head_back, event_back}

-- an event that the writer takes: its tick is a number below 2^32, its data are bytes, and its kind is one of the six and has data if there are any
pub record Good (e : Event) : Type 0 where
  pub tick_fits : e.tick < 4294967296
  pub writable : event_good e.kind (length e.bytes) ≡ true
  pub are_bytes : (i : ℕ) → get_or e.bytes i 0 < 256

pub data AllGood : List Event → Type 0 where
  nil : AllGood []
  cons : {e : Event} {es : List Event} → Good e → AllGood es → AllGood (e ∷ es)

-- The head, whatever follows it.
pub head_reads_back : (d c t : ℕ) → d < 4294967296 → c < 4294967296 → t < 4294967296 → (rest : List ℕ)
    → head_of (lines_of (head_text d c t ++ rest)) ≡ head d c t (lines_of rest)
head_reads_back = head_back

-- The events, to the last line.
pub events_read_back : {es : List Event} → AllGood es → events_of (lines_of (events_text es)) ≡ events es true
unfolding events_text lines_of events_of
events_read_back nil = refl
events_read_back (cons {e = e} {es = es} g gs) =
    event_back e (events_text es) g.tick_fits g.writable g.are_bytes ∙ ap (and_then e) (events_read_back gs)

-- THE THEOREM. A whole trace.
pub trace_reads_back : (d c t : ℕ) {es : List Event} → d < 4294967296 → c < 4294967296 → t < 4294967296 → AllGood es
    → (head_of (lines_of (trace_text d c t es)) ≡ head d c t (lines_of (events_text es))) × (events_of (lines_of (events_text es)) ≡ events es true)
unfolding trace_text
trace_reads_back d c t {es} dl cl tl gs = (head_reads_back d c t dl cl tl (events_text es), events_read_back gs)
