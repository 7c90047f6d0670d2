-- The laws that RefusedChangesNothing stands on: each call, refused, leaves the endpoint as given.
use Rattle.std.specs.Prelude.{ℕ, Bool, List, ◌≡◌, eqb, length, Err, Ok, Some, None}
use Rattle.std.proofs.Math.Bool.{true, false, cond}
use Rattle.std.proofs.Math.Path.{refl}
use Rattle.std.proofs.Common.{sym, ap, ne_eqb}
use Rattle.common.specs.declared.Refusal.{Refusal}
use Rattle.common.specs.Answer.{written_of, settled_err}
use Rattle.wire.specs.Read.{read_of, Reading}
use Rattle.receiver.specs.declared.Receiver.{Receiver}
use Rattle.receiver.specs.Take.{take_answer, taken_of}
use Rattle.sender.specs.declared.Sender.{Sender}
use Rattle.sender.specs.Record as sending
use Rattle.sender.specs.Send.{new_answer, new_of, resend_answer, resend_of}
use Rattle.sender.specs.Sweep.{sweep_answer, sweep_of}
use Rattle.endpoint.specs.Receive.{Halves, receiver_of, sound_of, packet_answer, packet_told, packet_of, read_answer, read_into, receive_answer, receive_of}
use Rattle.endpoint.specs.Calls.{Endpoint, Call, receives, takes, acknowledges, sends, resends, sweeps, sending_of, with_sender, with_receiver, answer_of, call_of}

-- A written answer that refuses has a number that is not 0.
pub refused_not_zero : (a : ℕ) (r : Refusal) (b : List ℕ) → written_of a b ≡ Err r → a ≡ 0 → ⊥
unfolding written_of
refused_not_zero a r b e = (settled_err r a (length b) (sym e)).0

-- what is chosen where the answer is 0 is not chosen where it is not
refused : {A : Type 0} (n : ℕ) (x y : A) → (n ≡ 0 → ⊥) → cond (eqb n 0) x y ≡ y
refused n x y h = rw (ne_eqb n 0 h) refl

-- A datagram that is refused goes into neither half.
module _ (w cap : ℕ) (e : Halves) (d : List ℕ) where
  read_refused : (x : Reading) → (read_answer w e d x ≡ 0 → ⊥) → read_into w e d x ≡ e
  unfolding read_answer read_into packet_of
  read_refused (Err n) h = refl
  read_refused (Ok None) h = refl
  read_refused (Ok (Some p)) h = refused (packet_answer w e d p) (packet_told w e d p) e h

  receive_refused : (receive_answer w cap e d ≡ 0 → ⊥) → receive_of w cap e d ≡ e
  unfolding receive_answer receive_of
  receive_refused h = go (sound_of w cap e) h
    where
      go : (b : Bool) → (cond b (read_answer w e d (read_of d)) 13 ≡ 0 → ⊥) → cond b (read_into w e d (read_of d)) e ≡ e
      go true k = read_refused (read_of d) k
      go false k = refl

pub call_refused : (w cap : ℕ) (e : Endpoint) (c : Call) → (answer_of w cap e c ≡ 0 → ⊥) → call_of w cap e c ≡ e
unfolding answer_of call_of taken_of new_of resend_of sweep_of
call_refused w cap e (receives d) h = ap (λ (x : Halves). record { halves = x; sent = e.sent }) (receive_refused w cap e.halves d h)
call_refused w cap e (takes room) h = ap (λ (x : Receiver). with_receiver e x) (refused (take_answer w cap (receiver_of e.halves) room) _ _ h)
call_refused w cap e (acknowledges stamp gap room) h = refl
call_refused w cap e (sends tick block room) h =
    ap (λ (x : sending.State). with_sender e x.sender x.store) (refused (new_answer w cap (sending_of e) block room) _ _ h)
call_refused w cap e (resends tick room) h = ap (λ (x : Sender). with_sender e x e.sent) (refused (resend_answer w cap (sending_of e) room) _ _ h)
call_refused w cap e (sweeps tick) h = ap (λ (x : Sender). with_sender e x e.sent) (refused (sweep_answer w cap e.halves.sender) _ _ h)
