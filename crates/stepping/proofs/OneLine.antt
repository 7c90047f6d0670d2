-- One line's step, a law for each way out.
use Rattle.endpoint.specs.Open.{Opens}
use Rattle.std.specs.Prelude.{Err, Ok}
use Rattle.common.specs.declared.Refusal.{Refusal}
use Prim.Native.Nat.{ℕ, ◌+◌, ◌*◌, ◌≤◌}
use mathlib.Core.Bool.{Bool, true, false, cond}
use mathlib.Core.List.{List, []}
use mathlib.Core.Logic.{⊎_elim}
use mathlib.Core.Path.{◌≡◌, refl, sym, ◌∙◌, ap}
use native.Mathlib.Omega.{arith}
use borrow.Author.Tests.{eq-eqb, ne_eqb, eqb-true}
use lib.ListN.{length, take, drop}
use lib.Seq.{take_at}
use lib.Dec.{eqb}
use Rattle.common.specs.Put.{put_of, put_front}
use Rattle.common.specs.Answer.{written_of, left_of, settled_err, settled_ok}
use Rattle.common.specs.Facts.{bool, clash, not_so}
use Rattle.common.specs.Laid.{laid_nothing}
use Rattle.text.specs.Ascii.{ascii}
use Rattle.text.specs.Within.{LaidWithin, within, within_as}
use Rattle.trace.specs.declared.Cursor.{Cursor}
use Rattle.std.specs.Prelude.{Option, None, Some}
use Rattle.trace.specs.Words.{same}
use Rattle.trace.specs.Numbers.{number_under, first_of, on_number, on_pair}
use Rattle.trace.specs.Kinds.{kind_of}
use Rattle.trace.specs.Read.{due_of, first_read, timeout_read, tick_read, kind_read, at_format, at_edition, at_first, at_timeout, at_tick, at_kind, next_of, behind_data, data_good, data_bytes, data_answer}
use Rattle.trace.specs.WordsLaws.{number_under_long, kind_of_long}
use Rattle.trace.proofs.Due.{behind_taken, behind_refused}
use Rattle.trace.specs.DataLaws.{data_long, data_length, data_bad, data_fits}
use Rattle.receiver.specs.declared.Receiver.{Receiver}
use Rattle.sender.specs.declared.Sender.{Sender}
use Rattle.endpoint.specs.Fresh.{endpoint_of}
use Rattle.endpoint.specs.Calls.{Endpoint, call_of}
use Rattle.trace_state.specs.declared.State.{State}
use Rattle.calling.specs.Asks.{endpoint_with, call_by}
use Rattle.answering.specs.Answers.{answer_for}
use Rattle.trace_state.specs.Steps.{machine, data_read, called, opened_by, open_with, opens_at, opening, step_of, step_text}
use Rattle.trace_state.specs.Takes.{paid, Steps, machine_of}

-- The line of data, read into a buffer of 32,768 bytes or more: it is refused where it is badly written, and for nothing else.

module _ (k : ℕ) (l : List ℕ) (room : ℕ) (big : 32768 ≤ room) (short : length l ≤ 65536) where
  accepted : data_good k l ≡ true → 0 ≡ data_answer k l room
  accepted g = data_fits k l room g (omega arith)

  pub data_refused : {r : Refusal} → Err r ≡ written_of (data_answer k l room) (data_bytes l) → data_good k l ≡ false
  unfolding written_of
  data_refused {r} w =
      let (h, q) = settled_err r (data_answer k l room) (length (data_bytes l)) w in
      not_so (data_good k l) (λ g. h (sym (accepted g)))

  -- it was accepted, and how many bytes were read
  data_ok : {n : ℕ} → Ok n ≡ written_of (data_answer k l room) (data_bytes l) → (0 ≡ data_answer k l room) × (n ≡ length (data_bytes l))
  unfolding written_of
  data_ok {n} w = settled_ok n (data_answer k l room) (length (data_bytes l)) w

  pub data_wrote : {n : ℕ} → Ok n ≡ written_of (data_answer k l room) (data_bytes l) → data_good k l ≡ true
  data_wrote w = ⊎_elim (λ g. g) (λ g. absurd (omega (arith, (data_ok w).0, data_bad k l room g))) (bool (data_good k l))

  -- and which
  pub data_taken : {n : ℕ} {b : List ℕ} (z : List ℕ) → Ok n ≡ written_of (data_answer k l room) (data_bytes l)
      → b ≡ left_of (data_answer k l room) (data_bytes l) z → take n b ≡ data_bytes l
  unfolding left_of
  data_taken {n} {b} z w q =
      let (e, h) = data_ok w in
      let p : b ≡ put_of z 0 (data_bytes l) = rw (← e) at q in
      ap (take n) (p ∙ put_front z (data_bytes l)) ∙ take_at (data_bytes l) (drop (length (data_bytes l)) z) n (sym h)

  pub data_within : {n : ℕ} → Ok n ≡ written_of (data_answer k l room) (data_bytes l) → n ≤ 32768
  data_within w = omega (arith, (data_ok w).1, data_length l)

-- The ways out of a line of data.

paid_six : paid 6 ≡ 60
unfolding paid
paid_six = refl

paid_four : paid 4 ≡ 0
unfolding paid
paid_four = refl

paid_seven : paid 7 ≡ 0
unfolding paid
paid_seven = refl

-- nothing is written
nothing : {b : List ℕ} (d : List ℕ) (at : ℕ) → b ≡ [] → LaidWithin 30 b d at d at
nothing d at e = within_as (sym e) (within 30 (omega arith) (laid_nothing d at))

module _ (s : State) (l out : List ℕ) (at : ℕ) where
  pub line_refused : (store sent : List ℕ) (q : Cursor) → s.cursor.due ≡ 6 → data_good s.cursor.kind l ≡ false → q ≡ behind_data s.cursor false
      → Steps (machine_of s store sent) l out at (record { cursor = q; sender = s.sender; receiver = s.receiver }) store sent out at
  unfolding step_of called step_text data_read
  line_refused store sent q h g e =
      record {
        left = rw (eq-eqb _ _ h, g, e) refl;
        text = nothing out at (rw (eq-eqb _ _ h, g) refl);
        room = omega (arith, paid_seven, ap (λ (c : Cursor). paid c.due) (e ∙ sym (behind_refused s.cursor false h refl refl)));
      }

  pub line_called : (store sent store' sent' out' : List ℕ) (bytes : List ℕ) (sender : Sender) (receiver : Receiver) (r : ℕ) (q : Cursor) → s.cursor.due ≡ 6
      → data_good s.cursor.kind l ≡ true → q ≡ behind_data s.cursor true → bytes ≡ data_bytes l
      → endpoint_with sender receiver store' sent' ≡ call_of 32 32 (machine_of s store sent).endpoint (call_by s.cursor.kind s.cursor.tick bytes)
      → LaidWithin 30 (answer_for (machine_of s store sent).endpoint (call_by s.cursor.kind s.cursor.tick bytes)) out at out' r
      → Steps (machine_of s store sent) l out at (record { cursor = q; sender = sender; receiver = receiver }) store' sent' out' r
  unfolding step_of called step_text data_read
  line_called store sent store' sent' out' bytes sender receiver r q h g k b y z =
      record {
        left = rw (eq-eqb _ _ h, g, ← b, k) (ap (λ (e : Endpoint). machine (behind_data s.cursor true) e) y);
        text = within_as (rw (eq-eqb _ _ h, g, ← b) refl) z;
        room = omega (arith, paid_four, ap (λ (c : Cursor). paid c.due) (k ∙ sym (behind_taken s.cursor true h refl refl)), ap paid h, paid_six, data_long s.cursor.kind l g, z.room);
      }

-- The ways out of any other line.

-- a tick line and a kind line pay for an answer by their length
tick_paid : (c : Cursor) (l : List ℕ) (v : Option ℕ) → number_under (ascii "tick=") l ≡ v → paid (on_number v (λ t. tick_read c t) (due_of c 7)).due ≤ 5 * (length l + 1)
unfolding paid
tick_paid c l None h = omega arith
tick_paid c l (Some n) h = omega (arith, number_under_long (ascii "tick=") l n h)

kind_paid : (c : Cursor) (l : List ℕ) (b : Bool) → eqb (kind_of l) 0 ≡ b → paid (cond b (due_of c 7) (kind_read c (kind_of l))).due ≤ 30 + 5 * (length l + 1)
unfolding paid
kind_paid c l true h = omega arith
kind_paid c l false h = omega (arith, kind_of_long l (λ e. clash true refl (sym (eq-eqb (kind_of l) 0 e) ∙ h)))

first_paid : (c : Cursor) (v : Option (ℕ × ℕ)) → paid (on_pair v (λ d h. first_read c d h) (due_of c 8)).due ≡ 0
unfolding paid
first_paid c None = refl
first_paid c (Some (d, h)) = refl

timeout_paid : (c : Cursor) (v : Option ℕ) → paid (on_number v (λ t. timeout_read c t) (due_of c 8)).due ≡ 0
unfolding paid
timeout_paid c None = refl
timeout_paid c (Some t) = refl

paid_free : (n : ℕ) → (n ≡ 5 → ⊥) → (n ≡ 6 → ⊥) → paid n ≡ 0
unfolding paid
paid_free n h g = rw (ne_eqb n 5 h, ne_eqb n 6 g) refl

fixed_paid : (b : Bool) (n : ℕ) → paid n ≡ 0 → paid (cond b n 8) ≡ 0
unfolding paid
fixed_paid true n h = h
fixed_paid false n h = refl

choose : (b : Bool) (x y : Cursor) (k : ℕ) → (b ≡ true → paid x.due ≤ k) → paid y.due ≤ k → paid (cond b x y).due ≤ k
choose true x y k f g = f refl
choose false x y k f g = g

paid_five : paid 5 ≡ 30
unfolding paid
paid_five = refl

next_paid : (c : Cursor) (l : List ℕ) → paid (next_of c l).due ≤ paid c.due + 5 * (length l + 1)
unfolding next_of at_format at_edition at_first at_timeout at_tick at_kind
next_paid c l =
    choose (eqb c.due 0) _ _ _ (λ e. omega (arith, fixed_paid (same l (ascii "format=counter-trace")) 1 (paid_free 1 (λ q. omega arith) (λ q. omega arith))))
    (choose (eqb c.due 1) _ _ _ (λ e. omega (arith, fixed_paid (same l (ascii "edition=1")) 2 (paid_free 2 (λ q. omega arith) (λ q. omega arith))))
    (choose (eqb c.due 2) _ _ _ (λ e. omega (arith, first_paid c (first_of l)))
    (choose (eqb c.due 3) _ _ _ (λ e. omega (arith, timeout_paid c (number_under (ascii "timeout=") l)))
    (choose (eqb c.due 4) _ _ _ (λ e. omega (arith, tick_paid c l (number_under (ascii "tick=") l) refl))
    (choose (eqb c.due 5) _ _ _ (λ e. omega (arith, ap paid (eqb-true c.due 5 e), paid_five, kind_paid c l (eqb (kind_of l) 0) refl)) (omega arith))))))

opens_both : (a b : ℕ) → opens_at a b ≡ true → (a ≡ 3) × (b ≡ 4)
unfolding opens_at
opens_both a b h = by (eqb a 3) refl h
  where
    by : (t : Bool) → eqb a 3 ≡ t → cond t (eqb b 4) false ≡ true → (a ≡ 3) × (b ≡ 4)
    by true e q = (eqb-true a 3 e, eqb-true b 4 q)
    by false e q = clash false q refl

opened_paid : (c : Cursor) (o : Opens) → c.due ≡ 4 → paid (opened_by c o) ≡ 0
unfolding opened_by
opened_paid c o h = by (eqb o.answer 0)
  where
    by : (t : Bool) → paid (cond t c.due 9) ≡ 0
    by true = ap paid h ∙ paid_four
    by false = paid_free 9 (λ q. omega arith) (λ q. omega arith)

step_opens : (s : State) (l store sent : List ℕ) (c : Cursor) → (s.cursor.due ≡ 6 → ⊥) → c ≡ next_of s.cursor l → s.cursor.due ≡ 3 → c.due ≡ 4
    → step_of (machine_of s store sent) l ≡ machine (due_of c (opened_by c (open_with c))) (endpoint_of (open_with c) store sent)
unfolding step_of opening
step_opens s l store sent c h e p q = rw (ne_eqb _ _ h, eq-eqb _ _ p, ← e, eq-eqb _ _ q) refl

step_goes : (s : State) (l store sent : List ℕ) (c : Cursor) → (s.cursor.due ≡ 6 → ⊥) → c ≡ next_of s.cursor l
    → opens_at s.cursor.due c.due ≡ false → machine c (machine_of s store sent).endpoint ≡ step_of (machine_of s store sent) l
unfolding step_of opening opens_at
step_goes s l store sent c h e o = rw (ne_eqb _ _ h, ← e) (by (eqb s.cursor.due 3) o)
  where
    by : (t : Bool) → cond t (eqb c.due 4) false ≡ false
        → machine c (machine_of s store sent).endpoint ≡ cond t (opening (machine_of s store sent) c) (machine c (machine_of s store sent).endpoint)
    by true q = rw q refl
    by false q = refl

step_silent : (s : State) (l store sent : List ℕ) → (s.cursor.due ≡ 6 → ⊥) → step_text (machine_of s store sent) l ≡ []
unfolding step_text data_read
step_silent s l store sent h = rw (ne_eqb _ _ h) refl

module _ (s : State) (l out : List ℕ) (at : ℕ) (store sent : List ℕ) where
  -- the line that opens the endpoint
  pub line_opens : (c : Cursor) (q : State) → (s.cursor.due ≡ 6 → ⊥) → c ≡ next_of s.cursor l → opens_at s.cursor.due c.due ≡ true
      → q.cursor ≡ due_of c (opened_by c (open_with c)) → q.sender ≡ (open_with c).sender → q.receiver ≡ (open_with c).receiver
      → Steps (machine_of s store sent) l out at q store sent out at
  line_opens c q h e o a b d =
      let t = opens_both s.cursor.due c.due o in
      let m : machine_of q store sent ≡ machine (due_of c (opened_by c (open_with c))) (endpoint_of (open_with c) store sent) = rw (a, b, d) refl in
      let p : paid q.cursor.due ≡ 0 = ap (λ (x : Cursor). paid x.due) a ∙ opened_paid c (open_with c) t.1 in
      record {
        left = m ∙ sym (step_opens s l store sent c h e t.0 t.1);
        text = nothing out at (step_silent s l store sent h);
        room = omega arith;
      }

  -- and any other
  pub line_goes : (c : Cursor) → (s.cursor.due ≡ 6 → ⊥) → c ≡ next_of s.cursor l → opens_at s.cursor.due c.due ≡ false
      → Steps (machine_of s store sent) l out at (record { cursor = c; sender = s.sender; receiver = s.receiver }) store sent out at
  line_goes c h e o =
      record {
        left = step_goes s l store sent c h e o;
        text = nothing out at (step_silent s l store sent h);
        room = omega (arith, next_paid s.cursor l, ap (λ (x : Cursor). paid x.due) e);
      }
