-- Document 02, W5: "The sender now remembers the field of the last accepted data-type packet." Of every endpoint and every sequence of calls: the LogWindowSize that the
-- sender's half holds afterwards is that of the last datagram among them that is a packet of type 0 and was accepted, and where there is none the outset's. No other
-- call moves it, and neither does a dummy or a datagram that is refused.
use Rattle.std.specs.Prelude.{ℕ, Bool, List, [], ◌∷◌, ◌≡◌, eqb, Err, Ok, Some, None}
use Rattle.std.proofs.Math.Bool.{true, false, cond}
use Rattle.std.proofs.Math.Option.{Option, none, some}
use Rattle.std.proofs.Math.Path.{refl, sym}
use Rattle.std.proofs.Common.{◌∙◌, ap}
use Rattle.common.specs.Answer.{no_of}
use Rattle.wire.specs.Read.{read_of, Reading}
use Rattle.sender.specs.declared.Sender.{Sender}
use Rattle.sender.specs.Record.{State}
use Rattle.sender.specs.Send.{new_answer, new_of, lowest_waiting, resend_answer, resent_for, resend_of}
use Rattle.sender.specs.Sweep.{losing, loses_at, sweep_answer, sweep_of}
use Rattle.sender.specs.Remembering.{size_in, remembered_after, either_way, turned_window}
use Rattle.endpoint.specs.Receive.{Halves, sound_of, packet_answer, packet_told, packet_of, read_answer, read_into, receive_answer, receive_of}
use Rattle.endpoint.specs.Calls.{Endpoint, Call, receives, takes, acknowledges, sends, resends, sweeps, sending_of, call_of, calls_of}

-- what is remembered after a call, where k was before
abbrev pub remembered_by : ℕ → ℕ → Endpoint → Call → ℕ → ℕ
remembered_by w cap e (receives d) k = remembered_after (receive_answer w cap e.halves d) d k
remembered_by w cap e (takes room) k = k
remembered_by w cap e (acknowledges stamp gap room) k = k
remembered_by w cap e (sends tick block room) k = k
remembered_by w cap e (resends tick room) k = k
remembered_by w cap e (sweeps tick) k = k

-- and after calls, each given what the one before left
unfoldable pub last_remembered : ℕ → ℕ → Endpoint → List Call → ℕ → ℕ
last_remembered w cap e [] k = k
last_remembered w cap e (c ∷ cs) k = last_remembered w cap (call_of w cap e c) cs (remembered_by w cap e c k)

-- what is chosen of two records that remember the same remembers that
either_same : (b : Bool) (x y : Sender) (k : ℕ) → x.logwindow ≡ k → y.logwindow ≡ k → (cond b x y).logwindow ≡ k
either_same true x y k h g = h
either_same false x y k h g = g

either_sent : (b : Bool) (x y : State) (k : ℕ) → x.sender.logwindow ≡ k → y.sender.logwindow ≡ k → (cond b x y).sender.logwindow ≡ k
either_sent true x y k h g = h
either_sent false x y k h g = g

module _ (w cap : ℕ) (e : Halves) (d : List ℕ) where
  read_hears : (x : Reading)
      → (read_into w e d x).sender.logwindow ≡ cond (eqb (read_answer w e d x) 0) (size_in x e.sender.logwindow) e.sender.logwindow
  unfolding read_into read_answer packet_of size_in
  read_hears (Err n) = sym (either_way (eqb (no_of n) 0) e.sender.logwindow)
  read_hears (Ok None) = refl
  read_hears (Ok (Some p)) = go (eqb (packet_answer w e d p) 0)
    where
      go : (b : Bool) → (cond b (packet_told w e d p) e).sender.logwindow ≡ cond b p.values.logwindow e.sender.logwindow
      go true = refl
      go false = refl

  receive_hears : (receive_of w cap e d).sender.logwindow ≡ remembered_after (receive_answer w cap e d) d e.sender.logwindow
  unfolding receive_of receive_answer
  receive_hears = go (sound_of w cap e)
    where
      go : (b : Bool) → (cond b (read_into w e d (read_of d)) e).sender.logwindow
          ≡ cond (eqb (cond b (read_answer w e d (read_of d)) 13) 0) (size_in (read_of d) e.sender.logwindow) e.sender.logwindow
      go true = read_hears (read_of d)
      go false = refl

call_hears : (w cap : ℕ) (e : Endpoint) (c : Call) → (call_of w cap e c).halves.sender.logwindow ≡ remembered_by w cap e c e.halves.sender.logwindow
unfolding call_of new_of resend_of sweep_of
call_hears w cap e (receives d) = receive_hears w cap e.halves d
call_hears w cap e (takes room) = refl
call_hears w cap e (acknowledges stamp gap room) = refl
call_hears w cap e (sends tick block room) = either_sent (eqb (new_answer w cap (sending_of e) block room) 0) _ (sending_of e) _ refl refl
call_hears w cap e (resends tick room) =
    either_same (eqb (resend_answer w cap (sending_of e) room) 0) _ e.halves.sender _ (found (lowest_waiting w e.halves.sender)) refl
  where
    found : (o : Option ℕ) → (resent_for w e.halves.sender tick o).logwindow ≡ e.halves.sender.logwindow
    found none = refl
    found (some c) = refl
call_hears w cap e (sweeps tick) =
    either_same (eqb (sweep_answer w cap e.halves.sender) 0) _ e.halves.sender _
    (turned_window w losing (loses_at w e.halves.sender tick) e.halves.sender) refl

-- THE THEOREM.
pub remembers_the_last : (w cap : ℕ) (e : Endpoint) (cs : List Call)
    → (calls_of w cap e cs).halves.sender.logwindow ≡ last_remembered w cap e cs e.halves.sender.logwindow
unfolding calls_of last_remembered
remembers_the_last w cap e [] = refl
remembers_the_last w cap e (c ∷ cs) =
    remembers_the_last w cap (call_of w cap e c) cs ∙ ap (last_remembered w cap (call_of w cap e c) cs) (call_hears w cap e c)
