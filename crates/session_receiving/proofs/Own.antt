-- The owner's own call: what the endpoint's call ensures is what the definitions say of the session. Assumes that it is not refused before all else.
use Rattle.common.specs.declared.Refusal.{Refusal}
use Rattle.std.specs.Prelude.{Result, Ok}
use Prim.Native.Nat.{ℕ}
use mathlib.Core.List.{List, []}
use mathlib.Core.Path.{◌≡◌, ◌∙◌, ap}
use Rattle.common.specs.Answer.{answered_of, written_of, left_of}
use Rattle.receiver.specs.declared.Receiver.{Receiver}
use Rattle.receiver.specs.Record.{state}
use Rattle.receiver.specs.Take.{take_answer, block_due, taken_of}
use Rattle.receiver.specs.Acknowledge.{acknowledge_answer, acknowledgement_of}
use Rattle.sender.specs.declared.Sender.{Sender}
use Rattle.endpoint.specs.Receive.{halves, receive_answer, receive_of}
use Rattle.endpoint.specs.Calls.{receives, takes, acknowledges, answer_of, writes_of, call_of}
use Rattle.session.specs.declared.Session.{Session}
use Rattle.session.specs.Place.{place_answer}
use Rattle.session.specs.Call.{calls, Made, lost_of, done_of, made_of}
use Rattle.session.specs.Shapes.{reached_by, filled_by}
use Rattle.session.proofs.Making.{owned}

module _ (count number token : ℕ) (old : Session) {x : Unit} (e : Ok x ≡ answered_of (place_answer count number token old.token)) where
  pub received : (store d : List ℕ) {answer : Result Unit Refusal} {s : Sender} {r : Receiver} {left : List ℕ}
      → answer ≡ answered_of (receive_answer 32 32 (halves old.sender old.receiver store) d)
      → s ≡ (receive_of 32 32 (halves old.sender old.receiver store) d).sender → r ≡ (receive_of 32 32 (halves old.sender old.receiver store) d).receiver
      → left ≡ (receive_of 32 32 (halves old.sender old.receiver store) d).store
      → (record { answer = answer; session = record { token = old.token; sender = s; receiver = r } } ≡ reached_by (made_of count number token old store (calls (receives d))))
      × (left ≡ (made_of count number token old store (calls (receives d))).store)
  unfolding done_of answer_of writes_of call_of lost_of
  received store d a s r b =
      let m = owned count number token old store (calls (receives d)) e in
      (rw (a, s, r) (ap reached_by m), b ∙ ap (λ (m : Made). m.store) m)

  pub taken : (room : ℕ) (store out : List ℕ) {answer : Result ℕ Refusal} {r : Receiver} {left : List ℕ}
      → answer ≡ written_of (take_answer 32 32 (state old.receiver store) room) (block_due 32 (state old.receiver store))
      → r ≡ taken_of 32 32 (state old.receiver store) room
      → left ≡ left_of (take_answer 32 32 (state old.receiver store) room) (block_due 32 (state old.receiver store)) out
      → (record { answer = answer; session = record { token = old.token; sender = old.sender; receiver = r } } ≡ filled_by (made_of count number token old store (calls (takes room))))
      × (left ≡ left_of (made_of count number token old store (calls (takes room))).answer (made_of count number token old store (calls (takes room))).bytes out)
  unfolding done_of answer_of writes_of call_of lost_of
  taken room store out w r b =
      let m = owned count number token old store (calls (takes room)) e in
      (rw (w, r) (ap filled_by m), b ∙ ap (λ (m : Made). left_of m.answer m.bytes out) m)

  pub acknowledged : (room stamp gap : ℕ) (out : List ℕ) {answer : Result ℕ Refusal} {left : List ℕ}
      → answer ≡ written_of (acknowledge_answer 32 32 old.receiver stamp gap room) (acknowledgement_of 32 old.receiver stamp gap)
      → left ≡ left_of (acknowledge_answer 32 32 old.receiver stamp gap room) (acknowledgement_of 32 old.receiver stamp gap) out
      → (answer ≡ (filled_by (made_of count number token old [] (calls (acknowledges stamp gap room)))).answer)
      × (left ≡ left_of (made_of count number token old [] (calls (acknowledges stamp gap room))).answer (made_of count number token old [] (calls (acknowledges stamp gap room))).bytes out)
  unfolding done_of answer_of writes_of call_of lost_of
  acknowledged room stamp gap out w b =
      let m = owned count number token old [] (calls (acknowledges stamp gap room)) e in
      (w ∙ ap (λ (m : Made). (filled_by m).answer) m, b ∙ ap (λ (m : Made). left_of m.answer m.bytes out) m)
