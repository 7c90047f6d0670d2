-- All lines, one after the other: what was written so far and what the lines that are left write is the whole.
use Prim.Native.Nat.{ℕ, ◌+◌, ◌*◌, ◌-◌, ◌≤◌, ◌<◌}
use mathlib.Core.List.{List, [], ◌∷◌, ◌++◌, append_assoc}
use mathlib.Core.Path.{◌≡◌, refl, sym, ◌∙◌, ap}
use native.Mathlib.Omega.{arith}
use lib.ListN.{length, take, drop, length-drop}
use lib.Seq.{drop-drop}
use Rattle.common.specs.Laid.{Laid, laid_nothing, laid_then, laid_as}
use Rattle.text.specs.Within.{LaidWithin, within_length}
use Rattle.trace.specs.Lines.{up_to, lines_of}
use Rattle.trace.specs.LinesLaws.{up_to_length, up_to_take, past_drop, lines_first}
use Rattle.trace_state.specs.declared.State.{State}
use Rattle.trace_state.specs.Steps.{Machine, begun, step_of, step_text, end_text, run_of}
use Rattle.replayer.specs.LineLaws.{run_none}
use Rattle.trace_state.specs.Takes.{Steps, machine_of, fresh_state, paid}

-- t is the trace, and `from` the place of the next line; `done` is what was written so far
pub record Ran (t store₀ sent₀ out₀ : List ℕ) (s : State) (store sent out : List ℕ) (at from : ℕ) : Type 0 where
  pub done : List ℕ
  pub laid : Laid out₀ 0 done out at
  pub rest : done ++ run_of (machine_of s store sent) (lines_of (drop from t)) ≡ run_of (begun store₀ sent₀) (lines_of t)
  pub room : 3 * at + paid s.cursor.due ≤ 5 * from
  pub ends : from ≤ length t + 1
  pub same : length out ≡ length out₀

ran_fresh : (t store sent out : List ℕ) → Ran t store sent out fresh_state store sent out 0 0
unfolding paid
ran_fresh t store sent out =
    record { done = []; laid = laid_nothing out 0; rest = refl; room = omega arith; ends = omega arith; same = refl }

pub ran_start : (t store sent out : List ℕ) {s : State} → s ≡ fresh_state → Ran t store sent out s store sent out 0 0
ran_start t store sent out e = rw e (ran_fresh t store sent out)

-- the lines from a place on, the first of them apart
lines_from : (t : List ℕ) (from : ℕ) → from < length t → lines_of (drop from t) ≡ up_to 10 (drop from t) ∷ lines_of (drop (from + length (up_to 10 (drop from t)) + 1) t)
lines_from t from h =
    let n = length (up_to 10 (drop from t)) in
    let e : from + n + 1 ≡ from + (n + 1) = omega arith in
    lines_first (drop from t) (omega (arith, length-drop from t))
    ∙ ap (λ (x : List ℕ). up_to 10 (drop from t) ∷ lines_of x) (past_drop 10 (drop from t) ∙ drop-drop (n + 1) from t ∙ ap (λ (k : ℕ). drop k t) (sym e))

run_step : (m n : Machine) (l : List ℕ) (ls : List (List ℕ)) → n ≡ step_of m l → step_text m l ++ run_of n ls ≡ run_of m (l ∷ ls)
unfolding run_of
run_step m n l ls e = rw e refl

-- no line is left behind the end
gone : (t : List ℕ) (n : ℕ) → length t ≤ n → drop n t ≡ []
gone t n h = none (drop n t) (omega (arith, length-drop n t))
  where
    none : (x : List ℕ) → length x ≡ 0 → x ≡ []
    none [] e = refl
    none (y ∷ ys) e = absurd (omega arith)

lines_none : lines_of [] ≡ []
unfolding lines_of
lines_none = refl

module _ {t store₀ sent₀ out₀ : List ℕ} {s : State} {store sent out : List ℕ} {at from : ℕ} (r : Ran t store₀ sent₀ out₀ s store sent out at from)
    (short : length t ≤ 65536) (wide : 131072 ≤ length out₀) where
  -- there is room for an answer, and for what follows the last line
  pub ran_room : at + 10881 ≤ length out
  ran_room = omega (arith, r.room, r.ends, r.same)

  -- the line is in the trace
  pub ran_line : from < length t → from + length (up_to 10 (drop from t)) ≤ length t
  ran_line h = omega (arith, up_to_length 10 (drop from t), length-drop from t)

  pub ran_next : {q : State} {store' sent' out' l : List ℕ} {k end : ℕ} → from < length t → end ≡ from + length (up_to 10 (drop from t)) → l ≡ take (end - from) (drop from t)
      → Steps (machine_of s store sent) l out at q store' sent' out' k → Ran t store₀ sent₀ out₀ q store' sent' out' k (end + 1)
  ran_next {q} {store'} {sent'} {out'} {l} {k} {end} h e p x =
      let u : List ℕ = up_to 10 (drop from t) in
      let n : end - from ≡ length u = omega arith in
      let same : l ≡ u = p ∙ ap (λ (i : ℕ). take i (drop from t)) n ∙ sym (up_to_take 10 (drop from t)) in
      let size : length l ≡ length u = ap length same in
      let m = machine_of s store sent in
      let fits : at + 30 ≤ length out = omega (arith, ran_room) in
      let place : end + 1 ≡ from + length u + 1 = omega arith in
      let lines : l ∷ lines_of (drop (end + 1) t) ≡ lines_of (drop from t) =
      ap (λ (i : ℕ). l ∷ lines_of (drop i t)) place ∙ ap (λ (y : List ℕ). y ∷ lines_of (drop (from + length u + 1) t)) same ∙ sym (lines_from t from h) in
      record {
        done = r.done ++ step_text m l;
        laid = laid_then (omega (arith, r.laid.next, r.room, r.ends)) r.laid x.text.laid;
        rest =
            append_assoc r.done (step_text m l) (run_of (machine_of q store' sent') (lines_of (drop (end + 1) t)))
            ∙ ap (λ (y : List ℕ). r.done ++ y) (run_step m (machine_of q store' sent') l (lines_of (drop (end + 1) t)) x.left)
            ∙ ap (λ (y : List (List ℕ)). r.done ++ run_of m y) lines
            ∙ r.rest;
        room = omega (arith, x.room, r.room, size);
        ends = omega (arith, ran_line h);
        same = within_length fits x.text ∙ r.same;
      }

  pub ran_end : {out' : List ℕ} {k : ℕ} → length t ≤ from → LaidWithin 10881 (end_text (machine_of s store sent)) out at out' k
      → LaidWithin 131072 (run_of (begun store₀ sent₀) (lines_of t)) out₀ 0 out' k
  ran_end {out'} {k} h x =
      let m = machine_of s store sent in
      let e : r.done ++ end_text m ≡ run_of (begun store₀ sent₀) (lines_of t) =
      ap (λ (y : List ℕ). r.done ++ y) (sym (run_none m))
      ∙ ap (λ (y : List (List ℕ)). r.done ++ run_of m y) (sym (ap lines_of (gone t from h) ∙ lines_none))
      ∙ r.rest in
      record {
        laid = laid_as e (laid_then (omega (arith, r.laid.next, r.room, r.ends)) r.laid x.laid);
        room = omega (arith, x.room, r.room, r.ends);
      }
