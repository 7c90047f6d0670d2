-- What follows the last line, a law for each way out.
use Prim.Native.Nat.{ℕ, ◌+◌, ◌≤◌, ◌<◌}
use mathlib.Core.Bool.{true, false}
use mathlib.Core.List.{List}
use mathlib.Core.Path.{◌≡◌, refl}
use native.Mathlib.Omega.{arith}
use Rattle.std.proofs.Common.{⊎_elim}
use Rattle.common.specs.Facts.{lt_or_ge}
use lib.Dec.{eqb, ltb, leb}
use borrow.Author.Tests.{ne_eqb, lt-ltb, le-ltb, le-leb, lt-leb}
use lib.ListN.{length}
use Rattle.text.specs.Within.{LaidWithin, within_as, within_wider, within_then}
use Rattle.sender.specs.declared.Sender.{Sender}
use Rattle.receiver.specs.declared.Receiver.{Receiver}
use Rattle.record_lines.specs.Record.{record_text}
use Rattle.record_lines.specs.AnswerLine.{answer_line}
use Rattle.trace.specs.Lines.{lines_of}
use Rattle.answering.specs.Answers.{refusal}
use Rattle.replayer.specs.Replay.{blank_store, replay_of}
use Rattle.trace_state.specs.Steps.{begun, end_for, run_of}
use Rattle.replayer.specs.LineByLine.{line_by_line}

-- an answer that is no sweep's
plain : (n k : ℕ) → answer_line false n k ≡ refusal n
unfolding answer_line
plain n k = refl

module _ (due : ℕ) (s : Sender) (r : Receiver) {d e : List ℕ} {at x : ℕ} where
  pub ends_record : due ≡ 4 → LaidWithin 10851 (record_text s r) d at e x → LaidWithin 10881 (end_for due s r) d at e x
  unfolding end_for
  ends_record h l = rw h (within_wider 10881 (omega arith) l)

  pub ends_fifteen : due ≡ 9 → LaidWithin 30 (answer_line false 15 0) d at e x → LaidWithin 10881 (end_for due s r) d at e x
  unfolding end_for
  ends_fifteen h l = rw h (within_as (plain 15 0) (within_wider 10881 (omega arith) l))

  pub ends_broken : {f : List ℕ} {y : ℕ} → at + 10881 ≤ length d → 4 < due → due ≤ 7
      → LaidWithin 30 (answer_line false 16 0) d at f y → LaidWithin 10851 (record_text s r) f y e x → LaidWithin 10881 (end_for due s r) d at e x
  unfolding end_for
  ends_broken m i j a b =
      let h : eqb due 4 ≡ false = ne_eqb _ _ (λ q. omega arith) in
      let g : eqb due 9 ≡ false = ne_eqb _ _ (λ q. omega arith) in
      let k : ltb due 4 ≡ false = le-ltb _ _ (omega arith) in
      rw (h, g, k, le-leb _ _ j) (within_then {k = 30} {m = 10851} m (within_as (plain 16 0) a) (λ n. b))

  -- any other line is due, in the head or none any more
  pub ends_other : (due ≡ 4 → ⊥) → (4 < due → due ≤ 7 → ⊥) → (due ≡ 9 → ⊥) → LaidWithin 30 (answer_line false 16 0) d at e x
      → LaidWithin 10881 (end_for due s r) d at e x
  unfolding end_for
  ends_other h i g l =
      let laid = within_as (plain 16 0) (within_wider 10881 (omega arith) l) in
      let e : eqb due 4 ≡ false = ne_eqb due 4 h in
      let f : eqb due 9 ≡ false = ne_eqb due 9 g in
      ⊎_elim
      (λ (low : due < 4). let k : ltb due 4 ≡ true = lt-ltb due 4 low in rw (e, f, k) laid)
      (λ (high : 4 ≤ due). let k : ltb due 4 ≡ false = le-ltb due 4 high in
      let m : 7 < due = ⊎_elim (λ (few : due < 8). absurd (i (omega arith) (omega arith))) (λ (many : 8 ≤ due). omega arith) (lt_or_ge due 8) in
      let n : leb due 7 ≡ false = lt-leb due 7 m in
      rw (e, f, k, n) laid)
      (lt_or_ge due 4)

-- The whole: a trace that is too long, and one that is replayed line by line.

pub replay_long : (t : List ℕ) {d e : List ℕ} {x : ℕ} → 65536 < length t → LaidWithin 30 (answer_line false 16 0) d 0 e x → LaidWithin 131072 (replay_of t) d 0 e x
unfolding replay_of
replay_long t h l = rw (lt-ltb _ _ h) (within_as (plain 16 0) (within_wider 131072 (omega arith) l))

same_lines : (t : List ℕ) → length t ≤ 65536 → run_of (begun blank_store blank_store) (lines_of t) ≡ replay_of t
unfolding replay_of
same_lines t h = rw (le-ltb _ _ h) (line_by_line (lines_of t))

pub replay_lines : (t : List ℕ) {d e : List ℕ} {x : ℕ} → length t ≤ 65536 → LaidWithin 131072 (run_of (begun blank_store blank_store) (lines_of t)) d 0 e x
    → LaidWithin 131072 (replay_of t) d 0 e x
replay_lines t h l = within_as (same_lines t h) l
