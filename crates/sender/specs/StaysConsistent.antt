-- Every call leaves a consistent record, from any consistent record whatever, reached by earlier calls or not; and the store keeps its length. A refused call leaves both
-- as they were, so these hold of every input.
use Rattle.std.specs.Prelude.{ℕ, ◌≤◌, ◌<◌, List, ◌≡◌, length}
use Rattle.std.proofs.Math.Bool.{true, false}
use Rattle.std.proofs.Math.Option.{Option, none, some}
use Rattle.std.proofs.Math.Logic.{⊎_elim}
use Rattle.std.proofs.Math.Path.{refl}
use Rattle.std.proofs.Common.{◌∙◌, eqb-true, eq-eqb}
use Rattle.std.proofs.Math.Dec.{eqb}
use Rattle.common.specs.EveryLaws.{all_every}
use Rattle.common.specs.Facts.{bool, clash}
use Rattle.common.specs.Put.{put_length}
use Rattle.window.specs.Store.{store_place, sound_with}
use Rattle.sender.specs.declared.Sender.{Sender}
use Rattle.sender.specs.Record.{State}
use Rattle.sender.specs.Consistent.{consistent_of, sound_of}
use Rattle.sender.specs.Send.{new_answer, new_of, lowest_waiting, is_none, resend_answer, resent_for, resend_of}
use Rattle.sender.specs.Acknowledge.{acknowledge_of}
use Rattle.sender.specs.Sweep.{losing, loses_at, sweep_answer, sweep_of}
use Rattle.sender.specs.Facts.{consistent_facts, facts_consistent}
use Rattle.sender.specs.TurnedWants.{acknowledging_ends, losing_ends}
use Rattle.sender.specs.Turned.{turned_none}
use Rattle.sender.specs.TurnedFacts.{turned_facts, turned_keeps}
use Rattle.sender.specs.SentFacts.{sent_facts}
use Rattle.sender.specs.SendReady.{sound_facts, new_accepted, new_ready, place_room, resend_accepted, resend_ready}
use Rattle.sender.specs.Tells.{datagram_turned}

module _ (w cap : ℕ) (lw : 0 < w) (uw : w ≤ cap) where
  -- THE THEOREM, for each call: what is left is consistent.
  pub new_keeps : (s : State) (tick : ℕ) (block : List ℕ) (room : ℕ) → consistent_of w cap s.sender ≡ true
      → consistent_of w cap (new_of w cap s tick block room).sender ≡ true
  unfolding new_of
  new_keeps s tick block room h =
      ⊎_elim
      (λ (t : eqb (new_answer w cap s block room) 0 ≡ true).
      let f = consistent_facts w cap s.sender lw uw h in
      rw t (facts_consistent w cap _ (sent_facts f tick (new_ready w cap s block f (new_accepted w cap s block room (eqb-true _ _ t))))))
      (λ (t : eqb (new_answer w cap s block room) 0 ≡ false). rw t h)
      (bool (eqb (new_answer w cap s block room) 0))

  pub new_length : (s : State) (tick : ℕ) (block : List ℕ) (room : ℕ) → length (new_of w cap s tick block room).store ≡ length s.store
  unfolding new_of
  new_length s tick block room =
      ⊎_elim
      (λ (t : eqb (new_answer w cap s block room) 0 ≡ true).
      let k = new_accepted w cap s block room (eqb-true _ _ t) in
      let (h, e) = sound_facts w cap s.sender (length s.store) k.sound in
      rw t (put_length s.store (store_place w s.sender.channelnext.0) block
      (place_room w s.sender.channelnext.0 (length block) (length s.store) lw k.short e)))
      (λ (t : eqb (new_answer w cap s block room) 0 ≡ false). rw t refl)
      (bool (eqb (new_answer w cap s block room) 0))

  pub resend_keeps : (s : State) (tick room : ℕ) → consistent_of w cap s.sender ≡ true → consistent_of w cap (resend_of w cap s tick room) ≡ true
  unfolding resend_of
  resend_keeps s tick room h =
      ⊎_elim
      (λ (t : eqb (resend_answer w cap s room) 0 ≡ true).
      let f = consistent_facts w cap s.sender lw uw h in
      let k = resend_accepted w cap s room (eqb-true _ _ t) in
      rw t (resent (lowest_waiting w s.sender) k.found (λ c e. facts_consistent w cap _ (sent_facts f tick (resend_ready w cap s c f k e)))))
      (λ (t : eqb (resend_answer w cap s room) 0 ≡ false). rw t h)
      (bool (eqb (resend_answer w cap s room) 0))
    where
      resent : (o : Option ℕ) → is_none o ≡ false → ((c : ℕ) → o ≡ some c → consistent_of w cap (resent_for w s.sender tick (some c)) ≡ true)
          → consistent_of w cap (resent_for w s.sender tick o) ≡ true
      resent none e g = clash true refl e
      resent (some c) e g = g c refl

  pub acknowledge_keeps : (s : Sender) (d : List ℕ) → consistent_of w cap s ≡ true → consistent_of w cap (acknowledge_of w cap s d) ≡ true
  acknowledge_keeps s d h =
      let f = consistent_facts w cap s lw uw h in
      facts_consistent w cap _ (turned_facts acknowledging_ends f (datagram_turned f (turned_none acknowledging_ends f) d))

  pub sweep_keeps : (s : Sender) (tick : ℕ) → consistent_of w cap s ≡ true → consistent_of w cap (sweep_of w cap s tick) ≡ true
  unfolding sweep_of
  sweep_keeps s tick h =
      ⊎_elim
      (λ (t : eqb (sweep_answer w cap s) 0 ≡ true). rw t (turned_keeps w cap losing losing_ends (loses_at w s tick) s lw uw h))
      (λ (t : eqb (sweep_answer w cap s) 0 ≡ false). rw t h)
      (bool (eqb (sweep_answer w cap s) 0))

  -- The same of a record with its store.
  pub new_sound : (s : State) (tick : ℕ) (block : List ℕ) (room : ℕ) → sound_of w cap s.sender (length s.store) ≡ true
      → sound_of w cap (new_of w cap s tick block room).sender (length (new_of w cap s tick block room).store) ≡ true
  unfolding sound_with
  new_sound s tick block room h =
      let (k, e) = sound_facts w cap s.sender (length s.store) h in
      all_every _ (new_keeps s tick block room k, (eq-eqb _ _ (new_length s tick block room ∙ e), tt))

  pub resend_sound : (s : State) (tick room : ℕ) → sound_of w cap s.sender (length s.store) ≡ true
      → sound_of w cap (resend_of w cap s tick room) (length s.store) ≡ true
  unfolding sound_with
  resend_sound s tick room h =
      let (k, e) = sound_facts w cap s.sender (length s.store) h in all_every _ (resend_keeps s tick room k, (eq-eqb _ _ e, tt))
