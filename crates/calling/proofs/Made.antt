-- One event's call, a law for each kind: what the endpoint's call ensures is what the event asks.
use Rattle.common.specs.declared.Refusal.{Refusal}
use Rattle.std.specs.Prelude.{Result, Ok, Err}
use Prim.Native.Nat.{ℕ}
use mathlib.Core.Bool.{Bool, true, false, cond}
use lib.Dec.{eqb}
use lib.ListN.{length}
use Rattle.std.specs.Result.{result_and}
use mathlib.Core.List.{List}
use mathlib.Core.Path.{◌≡◌, refl, ◌∙◌, ap}
use borrow.Author.Tests.{ne_eqb}
use Rattle.common.specs.declared.Refusal.{Refusal}
use Rattle.common.specs.Answer.{refusal_of, settled, answered_of, written_of}
use Rattle.receiver.specs.declared.Receiver.{Receiver}
use Rattle.receiver.specs.Record as receiving
use Rattle.receiver.specs.Take.{take_answer, taken_of}
use Rattle.receiver.specs.Acknowledge.{acknowledge_answer}
use Rattle.sender.specs.declared.Sender.{Sender}
use Rattle.sender.specs.Record as sending
use Rattle.sender.specs.Send.{new_answer, new_of, resend_answer, resend_of}
use Rattle.sender.specs.Sweep.{sweep_answer, sweep_count, sweep_of}
use Rattle.endpoint.specs.Receive.{halves, receive_answer, receive_of}
use Rattle.endpoint.specs.Calls.{answer_of, call_of}
use Rattle.calling.specs.declared.Called.{Called}
use Rattle.calling.specs.Asks.{endpoint_with, call_by, lost_to}
use Rattle.calling.specs.Does.{Does}

-- a call that finds nothing lost
none_lost : {A : Type 0} (n : ℕ) (y : A) (t : Bool) → result_and {U = ℕ} (cond t (Ok y) (Err (refusal_of n))) (Ok 0) ≡ cond t (Ok 0) (Err (refusal_of n))
none_lost n y true = refl
none_lost n y false = refl

pub answered_by : {m : Result ℕ Refusal} {x : Result Unit Refusal} (n : ℕ) → m ≡ result_and {U = ℕ} x (Ok 0) → x ≡ answered_of n → m ≡ settled n 0
unfolding answered_of
answered_by n p q = rw q at p ∙ none_lost n tt (eqb n 0)

pub written_by : {m x : Result ℕ Refusal} (n : ℕ) (b : List ℕ) → m ≡ result_and {U = ℕ} x (Ok 0) → x ≡ written_of n b → m ≡ settled n 0
unfolding written_of
written_by n b p q = rw q at p ∙ none_lost n (length b) (eqb n 0)

module _ (s : Sender) (r : Receiver) (store sent : List ℕ) (kind tick : ℕ) (bytes : List ℕ) (x : Called) where
  pub made_in : {store' : List ℕ} → kind ≡ 1 → x.answer ≡ settled (receive_answer 32 32 (halves s r store) bytes) 0
      → x.sender ≡ (receive_of 32 32 (halves s r store) bytes).sender
      → x.receiver ≡ (receive_of 32 32 (halves s r store) bytes).receiver
      → store' ≡ (receive_of 32 32 (halves s r store) bytes).store
      → Does (endpoint_with s r store sent) (call_by kind tick bytes) x store' sent
  unfolding call_by answer_of lost_to call_of
  made_in k a p q b = rw (call_by, k) (record { answer = a; left = rw (p, q, b) refl })

  pub made_send : {room : ℕ} {sent' : List ℕ} → room ≡ 1232 → kind ≡ 2 → x.answer ≡ settled (new_answer 32 32 (sending.state s sent) bytes room) 0
      → x.sender ≡ (new_of 32 32 (sending.state s sent) tick bytes room).sender → x.receiver ≡ r
      → sent' ≡ (new_of 32 32 (sending.state s sent) tick bytes room).store
      → Does (endpoint_with s r store sent) (call_by kind tick bytes) x store sent'
  unfolding call_by answer_of lost_to call_of
  made_send m k a p q b =
      rw (call_by, k, ← m) (record { answer = a; left = rw (p, q, b) refl })

  pub made_resend : {room : ℕ} → room ≡ 1232 → kind ≡ 3 → x.answer ≡ settled (resend_answer 32 32 (sending.state s sent) room) 0 → x.sender ≡ resend_of 32 32 (sending.state s sent) tick room
      → x.receiver ≡ r → Does (endpoint_with s r store sent) (call_by kind tick bytes) x store sent
  unfolding call_by answer_of lost_to call_of
  made_resend m k a p q =
      rw (call_by, k, ← m) (record { answer = a; left = rw (p, q) refl })

  pub made_take : {room : ℕ} → room ≡ 1232 → kind ≡ 4 → x.answer ≡ settled (take_answer 32 32 (receiving.state r store) room) 0 → x.sender ≡ s
      → x.receiver ≡ taken_of 32 32 (receiving.state r store) room
      → Does (endpoint_with s r store sent) (call_by kind tick bytes) x store sent
  unfolding call_by answer_of lost_to call_of
  made_take m k a p q =
      rw (call_by, k, ← m) (record { answer = a; left = rw (p, q) refl })

  pub made_sweep : kind ≡ 5
      → x.answer ≡ settled (sweep_answer 32 32 s) (sweep_count 32 32 s tick) → x.sender ≡ sweep_of 32 32 s tick → x.receiver ≡ r
      → Does (endpoint_with s r store sent) (call_by kind tick bytes) x store sent
  unfolding call_by answer_of lost_to call_of
  made_sweep k a p q =
      rw (call_by, k) (record { answer = a; left = rw (p, q) refl })

  pub made_ack : {room : ℕ} → room ≡ 1232 → (kind ≡ 1 → ⊥) → (kind ≡ 2 → ⊥) → (kind ≡ 3 → ⊥) → (kind ≡ 4 → ⊥) → (kind ≡ 5 → ⊥)
      → x.answer ≡ settled (acknowledge_answer 32 32 r tick 0 room) 0 → x.sender ≡ s → x.receiver ≡ r
      → Does (endpoint_with s r store sent) (call_by kind tick bytes) x store sent
  unfolding call_by answer_of lost_to call_of
  made_ack m k1 k2 k3 k4 k5 a p q =
      rw (call_by, ne_eqb _ _ k1, ne_eqb _ _ k2, ne_eqb _ _ k3, ne_eqb _ _ k4, ne_eqb _ _ k5, ← m)
      (record { answer = a; left = rw (p, q) refl })
