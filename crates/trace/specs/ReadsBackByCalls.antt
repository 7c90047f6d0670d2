-- What the writer writes the reader's calls read back, line by line: `next` over the lines, and where data is due `read` and then `behind_data`, gather the same
-- head and events.
use Rattle.std.specs.Prelude.{ℕ, ◌<◌, Bool, true, false, cond, List, [], ◌∷◌, ◌++◌, ◌≡◌, eqb, length, Some}
use Rattle.std.proofs.Common.{append_assoc, append-nil, sym, ◌∙◌, ap, arith, eq-eqb, ne_eqb}
use Rattle.std.proofs.Math.Path.{refl}
use Rattle.text.specs.Ascii.{ascii}
use Rattle.trace.specs.declared.Cursor.{Cursor}
use Rattle.trace.specs.Lines.{lines_of}
use Rattle.trace.specs.Words.{same}
use Rattle.trace.specs.Numbers.{number_under, first_of}
use Rattle.trace.specs.Kinds.{kind_of}
use Rattle.trace.specs.Read.{Event, event, edition_due, first_due, tick_due, data_due, fresh_cursor, due_of, first_read, timeout_read, tick_read, kind_read, at_format, at_edition, at_first, at_timeout, at_tick, at_kind, next_of, behind_data, data_good, data_bytes, data_answer}
use Rattle.trace.specs.Write.{event_text, head_text, events_text, trace_text}
use Rattle.trace.specs.DataLaws.{data_length, data_fits}
use Rattle.trace.specs.ReadsBackLaws.{head_lines_lem, event_lines, under_back, first_back, kind_back, data_back, bytes_back, good_kind, kind_bounds}
use Rattle.trace.specs.ReadsBack.{Good, AllGood, nil, cons}

-- the cursor between two lines, and the events read so far
pub record Gathered : Type 0 where
  pub cursor : Cursor
  pub events : List Event

abbrev pub gathered : Cursor → List Event → Gathered
gathered c es = record { cursor = c; events = es }

-- does `read` take a line of data, into a buffer that has room for its bytes?
unfoldable pub taken : Cursor → List ℕ → Bool
taken c l = eqb (data_answer c.kind l (length (data_bytes l))) 0

-- one line: where data is due `read`, which gives the event its bytes, and then `behind_data`; else `next`
unfoldable pub gather_line : Gathered → List ℕ → Gathered
gather_line g l =
    cond (eqb g.cursor.due data_due)
    (gathered (behind_data g.cursor (taken g.cursor l))
    (g.events ++ cond (taken g.cursor l) (event g.cursor.tick g.cursor.kind (data_bytes l) ∷ []) []))
    (gathered (next_of g.cursor l) g.events)

unfoldable pub gather_lines : Gathered → List (List ℕ) → Gathered
gather_lines g [] = g
gather_lines g (l ∷ ls) = gather_lines (gather_line g l) ls

-- the head and events that were gathered, with an event due next
pub record Holds (d c t : ℕ) (es : List Event) (g : Gathered) : Type 0 where
  pub firstdata : g.cursor.firstdata ≡ d
  pub firstchannel : g.cursor.firstchannel ≡ c
  pub timeout : g.cursor.timeout ≡ t
  pub due : g.cursor.due ≡ tick_due
  pub events : g.events ≡ es

-- a line by its step
gather_next : (g h : Gathered) (l : List ℕ) (ls : List (List ℕ)) → gather_line g l ≡ h → gather_lines g (l ∷ ls) ≡ gather_lines h ls
unfolding gather_lines
gather_next g h l ls e = ap (λ (x : Gathered). gather_lines x ls) e

-- the lines of the head
format_line : gather_line (gathered fresh_cursor []) (ascii "format=counter-trace") ≡ gathered (due_of fresh_cursor edition_due) []
unfolding gather_line next_of at_format same
format_line = refl

edition_line : gather_line (gathered (due_of fresh_cursor edition_due) []) (ascii "edition=1") ≡ gathered (due_of fresh_cursor first_due) []
unfolding gather_line next_of at_edition same
edition_line = refl

first_line : (l : List ℕ) (d c : ℕ) → first_of l ≡ Some (d, c) → gather_line (gathered (due_of fresh_cursor first_due) []) l ≡ gathered (first_read fresh_cursor d c) []
unfolding gather_line next_of at_first
first_line l d c h = rw h refl

timeout_line : (l : List ℕ) (d c t : ℕ) → number_under (ascii "timeout=") l ≡ Some t
    → gather_line (gathered (first_read fresh_cursor d c) []) l ≡ gathered (timeout_read (first_read fresh_cursor d c) t) []
unfolding gather_line next_of at_timeout
timeout_line l d c t h = rw h refl

head_gathered : (d c t : ℕ) → d < 4294967296 → c < 4294967296 → t < 4294967296 → (rest : List ℕ)
    → gather_lines (gathered fresh_cursor []) (lines_of (head_text d c t ++ rest)) ≡ gather_lines (gathered (timeout_read (first_read fresh_cursor d c) t) []) (lines_of rest)
head_gathered d c t dl cl tl rest =
    ap (gather_lines (gathered fresh_cursor [])) (head_lines_lem d c t rest)
    ∙ gather_next _ _ _ _ format_line
    ∙ gather_next _ _ _ _ edition_line
    ∙ gather_next _ _ _ _ (first_line _ d c (first_back d c dl cl))
    ∙ gather_next _ _ _ _ (timeout_line _ d c t (under_back (ascii "timeout=") t tl))

-- a line of data that is well written is taken
data_taken : (c : Cursor) (l : List ℕ) → data_good c.kind l ≡ true → taken c l ≡ true
unfolding taken
data_taken c l h = eq-eqb _ _ (sym (data_fits c.kind l (length (data_bytes l)) h (omega (arith, data_length l))))

-- the lines of an event
module _ (c : Cursor) (done : List Event) where
  tick_line : (l : List ℕ) (n : ℕ) → number_under (ascii "tick=") l ≡ Some n → gather_line (gathered (due_of c tick_due) done) l ≡ gathered (tick_read c n) done
  unfolding gather_line next_of at_tick
  tick_line l n h = rw h refl

  kind_line : (l : List ℕ) (n k : ℕ) → kind_of l ≡ k → eqb k 0 ≡ false → gather_line (gathered (tick_read c n) done) l ≡ gathered (kind_read (tick_read c n) k) done
  unfolding gather_line next_of at_kind
  kind_line l n k h z = rw (h, z) refl

  data_line : (l : List ℕ) (n k : ℕ) (bs : List ℕ) → data_good k l ≡ true → data_bytes l ≡ bs
      → gather_line (gathered (kind_read (tick_read c n) k) done) l ≡ gathered (due_of (kind_read (tick_read c n) k) tick_due) (done ++ (event n k bs ∷ []))
  unfolding gather_line behind_data
  data_line l n k bs h b = rw (data_taken (kind_read (tick_read c n) k) l h, b) refl

  event_gathered : (e : Event) → Good e → (rest : List ℕ)
      → gather_lines (gathered (due_of c tick_due) done) (lines_of (event_text e.tick e.kind e.bytes ++ rest))
      ≡ gather_lines (gathered (due_of (kind_read (tick_read c e.tick) e.kind) tick_due) (done ++ (e ∷ []))) (lines_of rest)
  event_gathered e g rest =
      let k = good_kind e.kind (length e.bytes) g.writable in
      let some = ne_eqb e.kind 0 (λ z. omega (arith, (kind_bounds e.kind k).0)) in
      ap (gather_lines (gathered (due_of c tick_due) done)) (event_lines e.tick e.kind e.bytes rest k g.are_bytes)
      ∙ gather_next _ _ _ _ (tick_line _ e.tick (under_back (ascii "tick=") e.tick g.tick_fits))
      ∙ gather_next _ _ _ _ (kind_line _ e.tick e.kind (kind_back e.kind k) some)
      ∙ gather_next _ _ _ _ (data_line _ e.tick e.kind e.bytes (data_back e.kind e.bytes g.writable g.are_bytes) (bytes_back e.bytes g.are_bytes))

-- all events
events_gathered : (c : Cursor) (done : List Event) {es : List Event} → AllGood es
    → Holds c.firstdata c.firstchannel c.timeout (done ++ es) (gather_lines (gathered (due_of c tick_due) done) (lines_of (events_text es)))
unfolding events_text lines_of gather_lines
events_gathered c done nil =
    record { firstdata = refl; firstchannel = refl; timeout = refl; due = refl; events = sym (append-nil done) }
events_gathered c done (cons {e = e} {es = es} g gs) =
    let n = events_gathered (kind_read (tick_read c e.tick) e.kind) (done ++ (e ∷ [])) gs in
    rw (event_gathered c done e g (events_text es))
    (record { firstdata = n.firstdata; firstchannel = n.firstchannel; timeout = n.timeout; due = n.due; events = n.events ∙ append_assoc done (e ∷ []) es })

-- THE THEOREM. A whole trace.
pub calls_read_back : (d c t : ℕ) {es : List Event} → d < 4294967296 → c < 4294967296 → t < 4294967296 → AllGood es
    → Holds d c t es (gather_lines (gathered fresh_cursor []) (lines_of (trace_text d c t es)))
unfolding trace_text
calls_read_back d c t {es} dl cl tl gs =
    rw (head_gathered d c t dl cl tl (events_text es)) (events_gathered (timeout_read (first_read fresh_cursor d c) t) [] gs)
