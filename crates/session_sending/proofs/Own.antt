-- The owner's own call: what the sender's call ensures is what the definitions say of the session. Assumes that it is not refused before all else.
use Rattle.common.specs.declared.Refusal.{Refusal}
use Rattle.std.specs.Prelude.{Result, Ok}
use Prim.Native.Nat.{ℕ}
use mathlib.Core.List.{List, []}
use mathlib.Core.Path.{◌≡◌, ◌∙◌, ap}
use Rattle.common.specs.Answer.{settled, answered_of, written_of, left_of}
use Rattle.sender.specs.declared.Sender.{Sender}
use Rattle.sender.specs.Record.{state}
use Rattle.sender.specs.Send.{new_answer, new_datagram, new_of, resend_answer, resend_datagram, resend_of}
use Rattle.sender.specs.Sweep.{sweep_answer, sweep_count, sweep_of}
use Rattle.endpoint.specs.Calls.{sends, resends, sweeps, answer_of, writes_of, call_of}
use Rattle.session.specs.declared.Session.{Session}
use Rattle.session.specs.Place.{place_answer}
use Rattle.session.specs.Call.{calls, Made, lost_of, done_of, made_of}
use Rattle.session.specs.Shapes.{filled_by, counted_by}
use Rattle.session.proofs.Making.{owned}

module _ (count number token : ℕ) (old : Session) {x : Unit} (e : Ok x ≡ answered_of (place_answer count number token old.token)) where
  pub sent : (store : List ℕ) (tick room : ℕ) (block out : List ℕ) {answer : Result ℕ Refusal} {s : Sender} {kept left : List ℕ}
      → answer ≡ written_of (new_answer 32 32 (state old.sender store) block room) (new_datagram (state old.sender store) block)
      → s ≡ (new_of 32 32 (state old.sender store) tick block room).sender
      → kept ≡ (new_of 32 32 (state old.sender store) tick block room).store
      → left ≡ left_of (new_answer 32 32 (state old.sender store) block room) (new_datagram (state old.sender store) block) out
      → (record { answer = answer; session = record { token = old.token; sender = s; receiver = old.receiver } } ≡ filled_by (made_of count number token old store (calls (sends tick block room))))
      × (kept ≡ (made_of count number token old store (calls (sends tick block room))).store)
      × (left ≡ left_of (made_of count number token old store (calls (sends tick block room))).answer (made_of count number token old store (calls (sends tick block room))).bytes out)
  unfolding done_of answer_of writes_of call_of lost_of
  sent store tick room block out w s k b =
      let m = owned count number token old store (calls (sends tick block room)) e in
      (rw (w, s) (ap filled_by m), k ∙ ap (λ (m : Made). m.store) m, b ∙ ap (λ (m : Made). left_of m.answer m.bytes out) m)

  pub resent : (room : ℕ) (store : List ℕ) (tick : ℕ) (out : List ℕ) {answer : Result ℕ Refusal} {s : Sender} {left : List ℕ}
      → answer ≡ written_of (resend_answer 32 32 (state old.sender store) room) (resend_datagram 32 (state old.sender store))
      → s ≡ resend_of 32 32 (state old.sender store) tick room
      → left ≡ left_of (resend_answer 32 32 (state old.sender store) room) (resend_datagram 32 (state old.sender store)) out
      → (record { answer = answer; session = record { token = old.token; sender = s; receiver = old.receiver } } ≡ filled_by (made_of count number token old store (calls (resends tick room))))
      × (left ≡ left_of (made_of count number token old store (calls (resends tick room))).answer (made_of count number token old store (calls (resends tick room))).bytes out)
  unfolding done_of answer_of writes_of call_of lost_of
  resent room store tick out w s b =
      let m = owned count number token old store (calls (resends tick room)) e in
      (rw (w, s) (ap filled_by m), b ∙ ap (λ (m : Made). left_of m.answer m.bytes out) m)

  pub swept : (tick : ℕ) {answer : Result ℕ Refusal} {s : Sender} → answer ≡ settled (sweep_answer 32 32 old.sender) (sweep_count 32 32 old.sender tick)
      → s ≡ sweep_of 32 32 old.sender tick
      → record { answer = answer; session = record { token = old.token; sender = s; receiver = old.receiver } } ≡ counted_by (made_of count number token old [] (calls (sweeps tick)))
  unfolding done_of answer_of writes_of call_of lost_of
  swept tick a s = rw (a, s) (ap counted_by (owned count number token old [] (calls (sweeps tick)) e))
