-- Laws of the steps over a trace's lines: what one line of the head or of an event does, and what all of them write.
use Rattle.std.specs.Prelude.{ℕ, ◌≤◌, ◌<◌, Bool, true, false, cond, List, [], ◌∷◌, ◌++◌, ◌≡◌, eqb, ltb, Option, None, Some}
use Rattle.std.proofs.Common.{append_assoc, append-nil, sym, ◌∙◌, ap, arith, ne_eqb, eqb-true, lt-ltb, le-ltb, le-leb}
use Rattle.std.proofs.Math.Path.{refl}
use Rattle.common.specs.Order.{test, first}
use Rattle.common.specs.Facts.{clash}
use Rattle.numbers.specs.Full.{highest_first}
use Rattle.sender.specs.Record.{shortest_timeout, longest_timeout}
use Rattle.text.specs.Ascii.{ascii}
use Rattle.trace.specs.declared.Cursor.{Cursor}
use Rattle.trace.specs.Words.{same}
use Rattle.trace.specs.Numbers.{number_under, first_of, on_number, on_pair}
use Rattle.trace.specs.Kinds.{kind_of}
use Rattle.trace.specs.Read.{due_of, first_read, timeout_read, tick_read, kind_read, at_format, at_edition, at_first, at_timeout, at_tick, at_kind, next_of, behind_data, data_good, data_bytes, Event, event, Events, events, and_then, Head, no_head, head, head_of, events_of}
use Rattle.endpoint.specs.Open.{open_answer, opened_of, fresh_pair, zero_pair}
use Rattle.endpoint.specs.Calls.{Endpoint, call_of, calls_of}
use Rattle.endpoint.specs.Fresh.{endpoint_of, fresh_of, opened_fresh}
use Rattle.calling.specs.Asks.{call_for, calls_for}
use Rattle.answering.specs.Answers.{refusal, answer_for, answers_for}
use Rattle.replayer.specs.Replay.{record_of, blank_store, events_replayed, head_replayed}
use Rattle.trace_state.specs.Steps.{Machine, machine, data_read, called, opened_by, opening, step_of, step_text, end_for, end_text, run_of}

-- where no line is due any more, nothing is written but the end
next_ended : (c : Cursor) (l : List ℕ) → 7 ≤ c.due → next_of c l ≡ c
unfolding next_of
next_ended c l h =
    rw (
      ne_eqb c.due 0 (λ e. omega arith),
      ne_eqb c.due 1 (λ e. omega arith),
      ne_eqb c.due 2 (λ e. omega arith),
      ne_eqb c.due 3 (λ e. omega arith),
      ne_eqb c.due 4 (λ e. omega arith),
      ne_eqb c.due 5 (λ e. omega arith),
    )
    refl

step_ended : (m : Machine) (l : List ℕ) → 7 ≤ m.cursor.due → step_of m l ≡ m
unfolding step_of
step_ended m l h =
    rw (ne_eqb m.cursor.due 6 (λ e. omega arith), ne_eqb m.cursor.due 3 (λ e. omega arith), next_ended m.cursor l h) refl

text_ended : (m : Machine) (l : List ℕ) → 7 ≤ m.cursor.due → step_text m l ≡ []
unfolding step_text data_read
text_ended m l h = rw (ne_eqb m.cursor.due 6 (λ e. omega arith)) refl

run_ended : (m : Machine) (ls : List (List ℕ)) → 7 ≤ m.cursor.due → run_of m ls ≡ end_text m
unfolding run_of
run_ended m [] h = refl
run_ended m (l ∷ ls) h = rw (text_ended m l h, step_ended m l h) (run_ended m ls h)

-- one line of an event
module _ (c : Cursor) (e : Endpoint) where
  tick_bad : (l : List ℕ) → number_under (ascii "tick=") l ≡ None → step_of (machine (due_of c 4) e) l ≡ machine (due_of c 7) e
  unfolding step_of next_of at_tick
  tick_bad l h = rw h refl

  tick_good : (l : List ℕ) (n : ℕ) → number_under (ascii "tick=") l ≡ Some n → step_of (machine (due_of c 4) e) l ≡ machine (tick_read c n) e
  unfolding step_of next_of at_tick
  tick_good l n h = rw h refl

  tick_text : (l : List ℕ) → step_text (machine (due_of c 4) e) l ≡ []
  unfolding step_text data_read
  tick_text l = refl

  kind_bad : (n : ℕ) (l : List ℕ) → eqb (kind_of l) 0 ≡ true → step_of (machine (tick_read c n) e) l ≡ machine (due_of (tick_read c n) 7) e
  unfolding step_of next_of at_kind
  kind_bad n l h = rw h refl

  kind_good : (n : ℕ) (l : List ℕ) → eqb (kind_of l) 0 ≡ false → step_of (machine (tick_read c n) e) l ≡ machine (kind_read (tick_read c n) (kind_of l)) e
  unfolding step_of next_of at_kind
  kind_good n l h = rw h refl

  kind_text_lem : (n : ℕ) (l : List ℕ) → step_text (machine (tick_read c n) e) l ≡ []
  unfolding step_text data_read
  kind_text_lem n l = refl

  data_bad : (n k : ℕ) (l : List ℕ) → data_good k l ≡ false → step_of (machine (kind_read (tick_read c n) k) e) l ≡ machine (due_of (kind_read (tick_read c n) k) 7) e
  unfolding step_of called behind_data
  data_bad n k l h = rw h refl

  data_bad_text : (n k : ℕ) (l : List ℕ) → data_good k l ≡ false → step_text (machine (kind_read (tick_read c n) k) e) l ≡ []
  unfolding step_text data_read
  data_bad_text n k l h = rw h refl

-- an event whose three lines are good
data_good_lem : (c : Cursor) (e : Endpoint) (n k : ℕ) (l : List ℕ) → data_good k l ≡ true
    → step_of (machine (kind_read (tick_read c n) k) e) l ≡ machine (due_of (kind_read (tick_read c n) k) 4) (call_of 32 32 e (call_for (event n k (data_bytes l))))
unfolding step_of called behind_data
data_good_lem c e n k l h = rw h refl

data_text : (c : Cursor) (e : Endpoint) (n k : ℕ) (l : List ℕ) → data_good k l ≡ true
    → step_text (machine (kind_read (tick_read c n) k) e) l ≡ answer_for e (call_for (event n k (data_bytes l)))
unfolding step_text data_read
data_text c e n k l h = rw h refl

-- what follows where an event may come, where one has begun, and where a line of one was refused
end_whole : (c : Cursor) (e : Endpoint) → end_text (machine (due_of c 4) e) ≡ events_replayed e (events [] true)
unfolding end_text end_for events_replayed answers_for calls_for calls_of
end_whole c e = sym (append-nil (record_of e))

end_stopped : (e : Endpoint) → refusal 16 ++ record_of e ≡ events_replayed e (events [] false)
unfolding events_replayed answers_for calls_for calls_of
end_stopped e = ap (λ (x : List ℕ). refusal 16 ++ x) (sym (append-nil (record_of e)))

end_at : (c : Cursor) (e : Endpoint) (d : ℕ) → 5 ≤ d → d ≤ 7 → end_text (machine (due_of c d) e) ≡ refusal 16 ++ record_of e
unfolding end_text end_for
end_at c e d l h =
    rw (ne_eqb d 4 (λ q. omega arith), ne_eqb d 9 (λ q. omega arith), le-ltb d 4 (omega arith), le-leb d 7 h) refl

stopped : (c : Cursor) (e : Endpoint) (ls : List (List ℕ)) → run_of (machine (due_of c 7) e) ls ≡ events_replayed e (events [] false)
stopped c e ls = run_ended (machine (due_of c 7) e) ls (omega arith) ∙ end_at c e 7 (omega arith) (omega arith) ∙ end_stopped e

-- the answer of one event before those of the rest
replayed_next : (e : Endpoint) (x : Event) (y : Events)
    → answer_for e (call_for x) ++ events_replayed (call_of 32 32 e (call_for x)) y ≡ events_replayed e (and_then x y)
unfolding events_replayed answers_for calls_for calls_of
replayed_next e x y = sym (append_assoc (answer_for e (call_for x)) _ _)

-- a machine's step and text by other names
run_as : (m n : Machine) (l t : List ℕ) (ls : List (List ℕ)) → step_of m l ≡ n → step_text m l ≡ t → run_of m (l ∷ ls) ≡ t ++ run_of n ls
unfolding run_of
run_as m n l t ls p q = rw (p, q) refl

pub run_none : (m : Machine) → run_of m [] ≡ end_text m
unfolding run_of
run_none m = refl

-- the lines of events
events_run : (ls : List (List ℕ)) (c : Cursor) (e : Endpoint) → run_of (machine (due_of c 4) e) ls ≡ events_replayed e (events_of ls)
unfolding events_of
events_run [] c e = run_none (machine (due_of c 4) e) ∙ end_whole c e
events_run (t ∷ []) c e = by (number_under (ascii "tick=") t) refl
  where
    by : (v : Option ℕ) → number_under (ascii "tick=") t ≡ v → run_of (machine (due_of c 4) e) (t ∷ []) ≡ events_replayed e (events [] false)
    by None h = run_as _ _ t [] [] (tick_bad c e t h) (tick_text c e t) ∙ stopped c e []
    by (Some n) h =
        run_as _ _ t [] [] (tick_good c e t n h) (tick_text c e t)
        ∙ run_none (machine (tick_read c n) e) ∙ end_at (tick_read c n) e 5 (omega arith) (omega arith) ∙ end_stopped e
events_run (t ∷ k ∷ []) c e = by (number_under (ascii "tick=") t) refl
  where
    with_kind : (n : ℕ) (b : Bool) → eqb (kind_of k) 0 ≡ b → run_of (machine (tick_read c n) e) (k ∷ []) ≡ events_replayed e (events [] false)
    with_kind n true h = run_as _ _ k [] [] (kind_bad c e n k h) (kind_text_lem c e n k) ∙ stopped (tick_read c n) e []
    with_kind n false h =
        run_as _ _ k [] [] (kind_good c e n k h) (kind_text_lem c e n k)
        ∙ run_none (machine (kind_read (tick_read c n) (kind_of k)) e) ∙ end_at (kind_read (tick_read c n) (kind_of k)) e 6 (omega arith) (omega arith) ∙ end_stopped e

    by : (v : Option ℕ) → number_under (ascii "tick=") t ≡ v → run_of (machine (due_of c 4) e) (t ∷ k ∷ []) ≡ events_replayed e (events [] false)
    by None h = run_as _ _ t [] (k ∷ []) (tick_bad c e t h) (tick_text c e t) ∙ stopped c e (k ∷ [])
    by (Some n) h = run_as _ _ t [] (k ∷ []) (tick_good c e t n h) (tick_text c e t) ∙ with_kind n (eqb (kind_of k) 0) refl
events_run (t ∷ k ∷ d ∷ ls) c e = by (number_under (ascii "tick=") t) refl (λ x f. events_run ls x f)
  where
    Rest : Type 0
    Rest = (x : Cursor) (f : Endpoint) → run_of (machine (due_of x 4) f) ls ≡ events_replayed f (events_of ls)

    with_data : (n : ℕ) (b : Bool) → data_good (kind_of k) d ≡ b → Rest
        → run_of (machine (kind_read (tick_read c n) (kind_of k)) e) (d ∷ ls)
        ≡ events_replayed e (cond b (and_then (event n (kind_of k) (data_bytes d)) (events_of ls)) (events [] false))
    with_data n true h rest =
        run_as _ _ d _ ls (data_good_lem c e n (kind_of k) d h) (data_text c e n (kind_of k) d h)
        ∙ ap (λ (y : List ℕ). answer_for e (call_for (event n (kind_of k) (data_bytes d))) ++ y) (rest (kind_read (tick_read c n) (kind_of k)) (call_of 32 32 e (call_for (event n (kind_of k) (data_bytes d)))))
        ∙ replayed_next e (event n (kind_of k) (data_bytes d)) (events_of ls)
    with_data n false h rest =
        run_as _ _ d [] ls (data_bad c e n (kind_of k) d h) (data_bad_text c e n (kind_of k) d h) ∙ stopped (kind_read (tick_read c n) (kind_of k)) e ls

    with_kind : (n : ℕ) (b : Bool) → eqb (kind_of k) 0 ≡ b → Rest
        → run_of (machine (tick_read c n) e) (k ∷ d ∷ ls)
        ≡ events_replayed e (cond b (events [] false) (cond (data_good (kind_of k) d) (and_then (event n (kind_of k) (data_bytes d)) (events_of ls)) (events [] false)))
    with_kind n true h rest = run_as _ _ k [] (d ∷ ls) (kind_bad c e n k h) (kind_text_lem c e n k) ∙ stopped (tick_read c n) e (d ∷ ls)
    with_kind n false h rest =
        run_as _ _ k [] (d ∷ ls) (kind_good c e n k h) (kind_text_lem c e n k) ∙ with_data n (data_good (kind_of k) d) refl rest

    by : (v : Option ℕ) → number_under (ascii "tick=") t ≡ v → Rest
        → run_of (machine (due_of c 4) e) (t ∷ k ∷ d ∷ ls)
        ≡ events_replayed e (on_number v (λ n. cond (eqb (kind_of k) 0) (events [] false) (cond (data_good (kind_of k) d) (and_then (event n (kind_of k) (data_bytes d)) (events_of ls)) (events [] false))) (events [] false))
    by None h rest = run_as _ _ t [] (k ∷ d ∷ ls) (tick_bad c e t h) (tick_text c e t) ∙ stopped c e (k ∷ d ∷ ls)
    by (Some n) h rest = run_as _ _ t [] (k ∷ d ∷ ls) (tick_good c e t n h) (tick_text c e t) ∙ with_kind n (eqb (kind_of k) 0) refl rest

-- a head that is refused or incomplete
end_head : (c : Cursor) (e : Endpoint) (d : ℕ) → d < 4 → end_text (machine (due_of c d) e) ≡ refusal 16
unfolding end_text end_for
end_head c e d h = rw (ne_eqb d 4 (λ q. omega arith), ne_eqb d 9 (λ q. omega arith), lt-ltb d 4 h) refl

end_eight : (c : Cursor) (e : Endpoint) → end_text (machine (due_of c 8) e) ≡ refusal 16
unfolding end_text end_for
end_eight c e = refl

end_nine : (c : Cursor) (e : Endpoint) → end_text (machine (due_of c 9) e) ≡ refusal 15
unfolding end_text end_for
end_nine c e = refl

no_head_lem : (c : Cursor) (e : Endpoint) (ls : List (List ℕ)) → run_of (machine (due_of c 8) e) ls ≡ refusal 16
no_head_lem c e ls = run_ended (machine (due_of c 8) e) ls (omega arith) ∙ end_eight c e

-- opening is refused by 15 alone
fifteen : (a b c d : Bool) → eqb (first (test a 15 ∷ test b 15 ∷ test c 15 ∷ test d 15 ∷ [])) 0 ≡ false → first (test a 15 ∷ test b 15 ∷ test c 15 ∷ test d 15 ∷ []) ≡ 15
unfolding first
fifteen true b c d h = refl
fifteen false true c d h = refl
fifteen false false true d h = refl
fifteen false false false true h = refl
fifteen false false false false h = clash true refl h

open_fifteen : (d c t : ℕ) → eqb (open_answer d c t) 0 ≡ false → open_answer d c t ≡ 15
unfolding open_answer
open_fifteen d c t h = fifteen (ltb highest_first d) (ltb highest_first c) (ltb t shortest_timeout) (ltb longest_timeout t) h

opened_refused : (d k t : ℕ) → eqb (open_answer d k t) 0 ≡ false → opened_of 32 d k t ≡ zero_pair 32 (open_answer d k t)
unfolding opened_of
opened_refused d k t q = rw q refl

opened_by_refused : (c : Cursor) (d k t : ℕ) → eqb (open_answer d k t) 0 ≡ false → opened_by c (opened_of 32 d k t) ≡ 9
unfolding opened_by
opened_by_refused c d k t q = rw (opened_refused d k t q, q) refl

-- one line of the head
module _ (c : Cursor) (e : Endpoint) where
  format_step : (l : List ℕ) → step_of (machine (due_of c 0) e) l ≡ machine (due_of c (cond (same l (ascii "format=counter-trace")) 1 8)) e
  unfolding step_of next_of at_format
  format_step l = refl

  edition_step : (l : List ℕ) → step_of (machine (due_of c 1) e) l ≡ machine (due_of c (cond (same l (ascii "edition=1")) 2 8)) e
  unfolding step_of next_of at_edition
  edition_step l = refl

  first_bad : (l : List ℕ) → first_of l ≡ None → step_of (machine (due_of c 2) e) l ≡ machine (due_of c 8) e
  unfolding step_of next_of at_first
  first_bad l h = rw h refl

  first_good : (l : List ℕ) (d k : ℕ) → first_of l ≡ Some (d, k) → step_of (machine (due_of c 2) e) l ≡ machine (first_read c d k) e
  unfolding step_of next_of at_first
  first_good l d k h = rw h refl

  timeout_bad : (d k : ℕ) (l : List ℕ) → number_under (ascii "timeout=") l ≡ None → step_of (machine (first_read c d k) e) l ≡ machine (due_of (first_read c d k) 8) e
  unfolding step_of next_of at_timeout opening
  timeout_bad d k l h = rw h refl

  timeout_read_lem : (d k t : ℕ) (l : List ℕ) → number_under (ascii "timeout=") l ≡ Some t
      → step_of (machine (first_read c d k) e) l ≡ opening (machine (first_read c d k) e) (timeout_read (first_read c d k) t)
  unfolding step_of next_of at_timeout
  timeout_read_lem d k t l h = rw h refl

  timeout_refused : (d k t : ℕ) → eqb (open_answer d k t) 0 ≡ false
      → opening (machine (first_read c d k) e) (timeout_read (first_read c d k) t) ≡ machine (due_of (timeout_read (first_read c d k) t) 9) (endpoint_of (opened_of 32 d k t) e.halves.store e.sent)
  unfolding opening
  timeout_refused d k t q = rw (opened_by_refused (timeout_read (first_read c d k) t) d k t q) refl

  timeout_good : (d k t : ℕ) → eqb (open_answer d k t) 0 ≡ true
      → opening (machine (first_read c d k) e) (timeout_read (first_read c d k) t) ≡ machine (due_of (timeout_read (first_read c d k) t) 4) (fresh_of 32 d k t e.halves.store e.sent)
  unfolding opening opened_by
  timeout_good d k t q = rw (opened_fresh 32 d k t (eqb-true (open_answer d k t) 0 q)) refl

  -- a line of the head writes nothing
  head_text_lem : (d : ℕ) (l : List ℕ) → d < 4 → step_text (machine (due_of c d) e) l ≡ []
  unfolding step_text data_read
  head_text_lem d l h = rw (ne_eqb d 6 (λ q. omega arith)) refl

-- the head line by line
abbrev pub not_opened : Endpoint
not_opened = endpoint_of (fresh_pair 32 0 0 0 0) blank_store blank_store

abbrev pub timeout_lines : ℕ → ℕ → List (List ℕ) → Head
timeout_lines d k [] = no_head
timeout_lines d k (t ∷ ls) = on_number (number_under (ascii "timeout=") t) (λ m. head d k m ls) no_head

abbrev pub first_lines : List (List ℕ) → Head
first_lines [] = no_head
first_lines (p ∷ ls) = on_pair (first_of p) (λ d k. timeout_lines d k ls) no_head

abbrev pub edition_lines : List (List ℕ) → Head
edition_lines [] = no_head
edition_lines (g ∷ ls) = cond (same g (ascii "edition=1")) (first_lines ls) no_head

abbrev pub format_lines : List (List ℕ) → Head
format_lines [] = no_head
format_lines (f ∷ ls) = cond (same f (ascii "format=counter-trace")) (edition_lines ls) no_head

-- a head that is not read is refused
replayed_none : refusal 16 ≡ head_replayed no_head
unfolding head_replayed
replayed_none = refl

opened_lines : (d k t : ℕ) (ls : List (List ℕ)) (c : Cursor) (b : Bool) → eqb (open_answer d k t) 0 ≡ b
    → run_of (opening (machine (first_read c d k) not_opened) (timeout_read (first_read c d k) t)) ls ≡ head_replayed (head d k t ls)
unfolding head_replayed
opened_lines d k t ls c true q =
    ap (λ (m : Machine). run_of m ls) (timeout_good c not_opened d k t q)
    ∙ events_run ls (timeout_read (first_read c d k) t) (fresh_of 32 d k t blank_store blank_store)
    ∙ rw q refl
opened_lines d k t ls c false q =
    let e = endpoint_of (opened_of 32 d k t) blank_store blank_store in
    ap (λ (m : Machine). run_of m ls) (timeout_refused c not_opened d k t q)
    ∙ run_ended (machine (due_of (timeout_read (first_read c d k) t) 9) e) ls (omega arith)
    ∙ end_nine (timeout_read (first_read c d k) t) e
    ∙ rw (q, open_fifteen d k t q) refl

timeout_run : (c : Cursor) (d k : ℕ) (ls : List (List ℕ)) → run_of (machine (first_read c d k) not_opened) ls ≡ head_replayed (timeout_lines d k ls)
timeout_run c d k [] = run_none (machine (first_read c d k) not_opened) ∙ end_head (first_read c d k) not_opened 3 (omega arith) ∙ replayed_none
timeout_run c d k (t ∷ ls) = by (number_under (ascii "timeout=") t) refl
  where
    none : step_text (machine (first_read c d k) not_opened) t ≡ []
    none = head_text_lem (first_read c d k) not_opened 3 t (omega arith)

    by : (v : Option ℕ) → number_under (ascii "timeout=") t ≡ v → run_of (machine (first_read c d k) not_opened) (t ∷ ls) ≡ head_replayed (on_number v (λ m. head d k m ls) no_head)
    by None h = run_as _ _ t [] ls (timeout_bad c not_opened d k t h) none ∙ no_head_lem (first_read c d k) not_opened ls ∙ replayed_none
    by (Some m) h = run_as _ _ t [] ls (timeout_read_lem c not_opened d k m t h) none ∙ opened_lines d k m ls c (eqb (open_answer d k m) 0) refl

first_run : (c : Cursor) (ls : List (List ℕ)) → run_of (machine (due_of c 2) not_opened) ls ≡ head_replayed (first_lines ls)
first_run c [] = run_none (machine (due_of c 2) not_opened) ∙ end_head c not_opened 2 (omega arith) ∙ replayed_none
first_run c (p ∷ ls) = by (first_of p) refl
  where
    none : step_text (machine (due_of c 2) not_opened) p ≡ []
    none = head_text_lem c not_opened 2 p (omega arith)

    by : (v : Option (ℕ × ℕ)) → first_of p ≡ v → run_of (machine (due_of c 2) not_opened) (p ∷ ls) ≡ head_replayed (on_pair v (λ d k. timeout_lines d k ls) no_head)
    by None h = run_as _ _ p [] ls (first_bad c not_opened p h) none ∙ no_head_lem c not_opened ls ∙ replayed_none
    by (Some (d, k)) h = run_as _ _ p [] ls (first_good c not_opened p d k h) none ∙ timeout_run c d k ls

-- a line that must be one fixed text
fixed_run : (c : Cursor) (d n : ℕ) (l w : List ℕ) (ls : List (List ℕ)) (x : Head) → d < 4
    → step_of (machine (due_of c d) not_opened) l ≡ machine (due_of c (cond (same l w) n 8)) not_opened
    → run_of (machine (due_of c n) not_opened) ls ≡ head_replayed x
    → run_of (machine (due_of c d) not_opened) (l ∷ ls) ≡ head_replayed (cond (same l w) x no_head)
fixed_run c d n l w ls x h step rest = run_as _ _ l [] ls step (head_text_lem c not_opened d l h) ∙ by (same l w)
  where
    by : (b : Bool) → run_of (machine (due_of c (cond b n 8)) not_opened) ls ≡ head_replayed (cond b x no_head)
    by true = rest
    by false = no_head_lem c not_opened ls ∙ replayed_none

edition_run : (c : Cursor) (ls : List (List ℕ)) → run_of (machine (due_of c 1) not_opened) ls ≡ head_replayed (edition_lines ls)
edition_run c [] = run_none (machine (due_of c 1) not_opened) ∙ end_head c not_opened 1 (omega arith) ∙ replayed_none
edition_run c (g ∷ ls) = fixed_run c 1 2 g (ascii "edition=1") ls (first_lines ls) (omega arith) (edition_step c not_opened g) (first_run c ls)

pub format_run : (c : Cursor) (ls : List (List ℕ)) → run_of (machine (due_of c 0) not_opened) ls ≡ head_replayed (format_lines ls)
format_run c [] = run_none (machine (due_of c 0) not_opened) ∙ end_head c not_opened 0 (omega arith) ∙ replayed_none
format_run c (f ∷ ls) =
    fixed_run c 0 1 f (ascii "format=counter-trace") ls (edition_lines ls) (omega arith) (format_step c not_opened f) (edition_run c ls)

-- the same head as of all four lines at once
either_way : (b : Bool) → cond b no_head no_head ≡ no_head
either_way true = refl
either_way false = refl

no_pair : (v : Option (ℕ × ℕ)) → on_pair v (λ d k. no_head) no_head ≡ no_head
no_pair None = refl
no_pair (Some (d, k)) = refl

pub same_head : (ls : List (List ℕ)) → format_lines ls ≡ head_of ls
unfolding head_of
same_head [] = refl
same_head (f ∷ []) = either_way (same f (ascii "format=counter-trace"))
same_head (f ∷ g ∷ []) = rw (either_way (same g (ascii "edition=1"))) (either_way (same f (ascii "format=counter-trace")))
same_head (f ∷ g ∷ p ∷ []) =
    rw (no_pair (first_of p), either_way (same g (ascii "edition=1"))) (either_way (same f (ascii "format=counter-trace")))
same_head (f ∷ g ∷ p ∷ t ∷ ls) = refl
