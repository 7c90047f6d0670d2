-- Every call leaves its history and its record in agreement.
use Rattle.std.specs.Prelude.{ℕ, ◌≤◌, ◌<◌, Bool, List, ◌∷◌, ◌++◌, ◌≡◌, length, Err, Ok, Some, None}
use Rattle.std.proofs.Math.Bool.{true, false, cond}
use Rattle.std.proofs.Math.Logic.{⊎_elim}
use Rattle.std.proofs.Math.Option.{Option, none, some}
use Rattle.std.proofs.Math.Path.{refl, sym, ap, subst}
use Rattle.std.proofs.Common.{◌∙◌, arith}
use Rattle.std.proofs.Math.Dec.{eqb}
use borrow.Author.Tests.{eqb-true, eqb-false, eq-eqb}
use Rattle.common.specs.Facts.{bool, clash}
use Rattle.wire.specs.declared.Packet.{Packet}
use Rattle.wire.specs.Read.{read_of, Reading}
use Rattle.receiver.specs.Consistent as receiver_tests
use Rattle.receiver.specs.Receive as receiver
use Rattle.sender.specs.declared.Sender.{Sender}
use Rattle.sender.specs.Record.{waiting, acknowledged, block_at}
use Rattle.sender.specs.Consistent.{consistent_of}
use Rattle.sender.specs.Acknowledge.{told_answer, told_names, told_by, acknowledge_answer, acknowledge_of}
use Rattle.sender.specs.Acknowledge as sender
use Rattle.sender.specs.Tells.{tells, accepted_names, datagram_turned}
use Rattle.sender.specs.Run.{has_acknowledged}
use Rattle.sender.specs.Send.{new_answer, new_of, lowest_waiting, is_none, resend_answer, resent_for, resend_of}
use Rattle.sender.specs.SendReady.{sound_facts, new_accepted, new_ready, waiting_found, resend_accepted, resend_ready}
use Rattle.sender.specs.Sweep.{loses_at, sweep_answer, sweep_of}
use Rattle.sender.specs.Facts.{Facts, consistent_facts}
use Rattle.sender.specs.TurnedWants.{acknowledging_ends, losing_ends}
use Rattle.sender.specs.Turned.{turned_alike, turned_none, turned_is}
use Rattle.sender.specs.States.{placed}
use Rattle.endpoint.specs.Receive.{Halves, packet_answer, packet_told, packet_of, read_answer, read_into, receive_answer, receive_of}
use Rattle.endpoint.specs.Calls.{Endpoint, Call, receives, takes, acknowledges, sends, resends, sweeps, sending_of, answer_of, call_of}
use Rattle.endpoint.specs.Sound.{Sound}
use Rattle.endpoint.specs.Refused.{call_refused}
use Rattle.endpoint.specs.Steps.{halves_sound}
use Rattle.endpoint.specs.Accounts.{Entry, sent, told, swept, resent_as, entries_of, added_by, count_in}
use Rattle.endpoint.specs.Accounting.Entries.{unsent}
use Rattle.endpoint.specs.Accounting.Books.{Books, swept_books, told_books, sent_books}

-- A datagram that an endpoint accepts, its sender's half accepts, and that half is left as it would be alone.
module _ (w cap : ℕ) (e : Halves) (d : List ℕ) (hs : consistent_of w cap e.sender ≡ true)
    (hr : receiver_tests.sound_of w cap e.receiver (length e.store) ≡ true) where
  told_accepts : (p : Packet) → packet_answer w e d p ≡ 0 → told_answer e.sender (told_by e.sender d p) ≡ 0
  unfolding packet_answer
  told_accepts p h = go (eqb (told_answer e.sender (told_by e.sender d p)) 0) refl h
    where
      go : (b : Bool) → eqb (told_answer e.sender (told_by e.sender d p)) 0 ≡ b
          → cond b (receiver.values_answer w e.receiver d p) (told_answer e.sender (told_by e.sender d p)) ≡ 0
          → told_answer e.sender (told_by e.sender d p) ≡ 0
      go true x k = eqb-true _ 0 x
      go false x k = k

  read_accepts : (x : Reading) → read_answer w e d x ≡ 0
      → ((read_into w e d x).sender ≡ sender.read_into w e.sender d x) × (sender.read_answer e.sender d x ≡ 0)
  unfolding read_answer read_into sender.read_answer sender.read_into packet_of sender.packet_of
  read_accepts (Err n) h = (refl, h)
  read_accepts (Ok None) h = (refl, h)
  read_accepts (Ok (Some p)) h =
      let k = told_accepts p h in (
        ap (λ (n : ℕ). (cond (eqb n 0) (packet_told w e d p) e).sender) h
            ∙ sym (ap (λ (n : ℕ). cond (eqb n 0) (sender.packet_told w e.sender d p) e.sender) k),
        k,
      )

  receive_accepts : receive_answer w cap e d ≡ 0
      → ((receive_of w cap e d).sender ≡ acknowledge_of w cap e.sender d) × (acknowledge_answer w cap e.sender d ≡ 0)
  unfolding receive_answer receive_of acknowledge_of acknowledge_answer
  receive_accepts h =
      let s = halves_sound w cap e hs hr in
      let k = read_accepts (read_of d) (sym (ap (λ (b : Bool). cond b (read_answer w e d (read_of d)) 13) s) ∙ h) in (
        ap (λ (b : Bool). (cond b (read_into w e d (read_of d)) e).sender) s
            ∙ k.0
            ∙ sym (ap (λ (b : Bool). cond b (sender.read_into w e.sender d (read_of d)) e.sender) hs),
        ap (λ (b : Bool). cond b (sender.read_answer e.sender d (read_of d)) 13) hs ∙ k.1,
      )

module _ (w cap : ℕ) (lw : 0 < w) (uw : w ≤ cap) (firstdata firstchannel : ℕ) (h : List Entry) (e : Endpoint) (k : Sound w cap e)
    (b : Books w firstdata firstchannel h e.halves.sender) where
  abbrev s : Sender
  s = e.halves.sender

  consistent : consistent_of w cap s ≡ true
  consistent = (sound_facts w cap s (length e.sent) k.sender).0

  facts : Facts w cap s
  facts = consistent_facts w cap s lw uw consistent

  -- EACH CALL, ACCEPTED
  receive_books : (d : List ℕ) → receive_answer w cap e.halves d ≡ 0
      → Books w firstdata firstchannel (told (told_names (tells s d (read_of d))) ∷ h) (receive_of w cap e.halves d).sender
  unfolding accepted_names
  receive_books d t =
      let (q, a) = receive_accepts w cap e.halves d consistent k.receiver t in
      subst (λ (x : Sender). Books w firstdata firstchannel (told (told_names (tells s d (read_of d))) ∷ h) x) (sym q)
      (told_books b facts
      (turned_alike acknowledging_ends facts (told_names (tells s d (read_of d)))
      (λ n l u p. ap (λ (x : ℕ). cond (eqb x 0) (told_names (tells s d (read_of d)) n) false) a)
      (datagram_turned facts (turned_none acknowledging_ends facts) d)))

  new_books : (tick : ℕ) (block : List ℕ) (room : ℕ) → new_answer w cap (sending_of e) block room ≡ 0
      → Books w firstdata firstchannel (sent false s.next.0 s.channelnext.0 ∷ h) (new_of w cap (sending_of e) tick block room).sender
  unfolding new_of count_in
  new_books tick block room t =
      rw (eq-eqb (new_answer w cap (sending_of e) block room) 0 t)
      (sent_books b facts false tick (new_ready w cap (sending_of e) block facts (new_accepted w cap (sending_of e) block room t)) b.next_channel
      (b.silent s.channelnext.0 (omega arith))
      (omega (arith, (unsent firstdata firstchannel s.channelnext.0 h b.in_order (omega (arith, b.next_channel))).0))
      (omega (arith, b.next_channel)))

  -- the waiting block that is found, is not acknowledged
  waits_at : (c : ℕ) → lowest_waiting w s ≡ some c → (s.channellow.0 ≤ c) × (c < s.channelnext.0) × (has_acknowledged w s c ≡ false)
  unfolding lowest_waiting
  waits_at c q =
      let j = waiting_found w s _ s.channellow.0 c q in (
        j.least,
        omega (arith, j.most, facts.bounds.channelnext),
        placed w s c j.least ∙ ap (λ (n : ℕ). eqb n acknowledged) (eqb-true (block_at w s c).state waiting j.waits),
      )

  resend_books : (tick room : ℕ) → resend_answer w cap (sending_of e) room ≡ 0
      → Books w firstdata firstchannel (resent_as s.next.0 (lowest_waiting w s) ++ h) (resend_of w cap (sending_of e) tick room)
  unfolding resend_of count_in
  resend_books tick room t =
      let a = resend_accepted w cap (sending_of e) room t in
      rw (eq-eqb (resend_answer w cap (sending_of e) room) 0 t)
      (found (lowest_waiting w s) a.found (λ c q.
      let (l, u, n) = waits_at c q in
      let v : firstchannel ≤ c = omega (arith, l, facts.bounds.channellow, b.first_block) in
      sent_books b facts true tick (resend_ready w cap (sending_of e) c facts a q) (v, omega (arith, u, b.next_channel)) (sym (b.says c v u) ∙ n)
      (omega (arith, b.counts c l u)) b.next_channel))
    where
      found : (o : Option ℕ) → is_none o ≡ false
          → ((c : ℕ) → o ≡ some c → Books w firstdata firstchannel (resent_as s.next.0 (some c) ++ h) (resent_for w s tick (some c)))
          → Books w firstdata firstchannel (resent_as s.next.0 o ++ h) (resent_for w s tick o)
      found none x g = clash true refl x
      found (some c) x g = g c refl

  sweep_books : (tick : ℕ) → sweep_answer w cap s ≡ 0 → Books w firstdata firstchannel (swept (loses_at w s tick) ∷ h) (sweep_of w cap s tick)
  unfolding sweep_of
  sweep_books tick t = rw (eq-eqb (sweep_answer w cap s) 0 t) (swept_books b facts (turned_is losing_ends facts (loses_at w s tick)))

  accepted_books : (c : Call) → answer_of w cap e c ≡ 0 → Books w firstdata firstchannel (entries_of w e c ++ h) (call_of w cap e c).halves.sender
  unfolding answer_of entries_of call_of
  accepted_books (receives d) t = receive_books d t
  accepted_books (takes room) t = b
  accepted_books (acknowledges stamp gap room) t = b
  accepted_books (sends tick block room) t = new_books tick block room t
  accepted_books (resends tick room) t = resend_books tick room t
  accepted_books (sweeps tick) t = sweep_books tick t

  -- A refused call adds nothing, and leaves the endpoint as it was.
  pub call_books : (c : Call) → Books w firstdata firstchannel (added_by w cap e c ++ h) (call_of w cap e c).halves.sender
  unfolding added_by
  call_books c =
      ⊎_elim
      (λ (t : eqb (answer_of w cap e c) 0 ≡ true). rw t (accepted_books c (eqb-true _ _ t)))
      (λ (t : eqb (answer_of w cap e c) 0 ≡ false).
      rw t (subst (λ (x : Endpoint). Books w firstdata firstchannel h x.halves.sender) (sym (call_refused w cap e c (eqb-false _ _ t))) b))
      (bool (eqb (answer_of w cap e c) 0))
