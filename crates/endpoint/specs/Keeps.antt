-- The laws that StaysSound stands on: a datagram goes into both halves or into neither, and each call keeps each half.
use Rattle.std.specs.Prelude.{ℕ, ◌%◌, ◌≤◌, ◌<◌, Bool, cond, List, ◌⊎◌, ◌≡◌, length, Err, Ok, Some, None}
use Rattle.std.proofs.Math.Bool.{true, false}
use Rattle.std.proofs.Math.Logic.{inl}
use Rattle.std.proofs.Common.{inr, ⊎_elim, sym, ap, subst, arith, ltb-false, eq-eqb}
use Rattle.std.proofs.Math.Path.{refl}
use Rattle.std.proofs.Math.Dec.{eqb}
use Rattle.std.proofs.lemmas.List.{length-replicate}
use Rattle.common.specs.EveryLaws.{all_every}
use Rattle.common.specs.Facts.{clash}
use Rattle.numbers.specs.Full.{highest_first}
use Rattle.window.specs.Store.{sound_with, store_size}
use Rattle.wire.specs.Read.{read_of, Reading}
use Rattle.wire.specs.Round.Tests.{all_pass}
use Rattle.receiver.specs.Consistent as receiver_tests
use Rattle.receiver.specs.Receive as receiver
use Rattle.receiver.specs.Facts as receiver_facts
use Rattle.receiver.specs.CanBeMet.{fresh_facts}
use Rattle.receiver.specs.StaysConsistent.{receive_keeps, take_keeps}
use Rattle.sender.specs.Record.{shortest_timeout, longest_timeout}
use Rattle.sender.specs.declared.Sender.{Sender}
use Rattle.sender.specs.Record.{is_pending, is_acknowledged, number_passes, no_number, no_block, number_at, block_at}
use Rattle.sender.specs.Fresh as sending
use Rattle.sender.specs.Consistent as sender_tests
use Rattle.sender.specs.Acknowledge.{told_answer, told_by}
use Rattle.sender.specs.Acknowledge as sender
use Rattle.sender.specs.Facts as sender_facts
use Rattle.sender.specs.SendReady.{sound_facts}
use Rattle.sender.specs.StaysConsistent.{acknowledge_keeps, sweep_keeps, new_sound, resend_sound}
use Rattle.window.specs.Places.{always}
use Rattle.endpoint.specs.Open.{open_tests, open_answer}
use Rattle.endpoint.specs.Receive.{Halves, receiver_of, packet_answer, packet_told, packet_of, read_into, receive_of}
use Rattle.endpoint.specs.Calls.{Endpoint, Call, receives, takes, acknowledges, sends, resends, sweeps, sending_of, call_of}
use Rattle.endpoint.specs.Sound.{Sound}
use Rattle.endpoint.specs.Fresh.{fresh_of}
use Rattle.endpoint.specs.Steps.{paired, halves_sound}

-- A datagram goes into both halves or into neither.
module _ (w cap : ℕ) (e : Halves) (d : List ℕ) where
  told_both : (b : Bool) (x : Halves) → (cond b x e ≡ e) ⊎ (cond b x e ≡ x)
  told_both true x = inr refl
  told_both false x = inl refl

  read_both : (x : Reading)
      → (read_into w e d x ≡ e) ⊎ (read_into w e d x ≡ paired (sender.read_into w e.sender d x) (receiver.read_into w (receiver_of e) d x))
  unfolding read_into sender.read_into sender.packet_of receiver.read_into packet_answer packet_of
  read_both (Err n) = inl refl
  read_both (Ok None) = inl refl
  read_both (Ok (Some p)) = go (eqb (told_answer e.sender (told_by e.sender d p)) 0) refl
    where
      -- a packet that the sender's half refuses is refused
      go : (b : Bool) → eqb (told_answer e.sender (told_by e.sender d p)) 0 ≡ b
          → (packet_of w e d p ≡ e)
          ⊎ (packet_of w e d p ≡ paired (sender.packet_of w e.sender d p) (receiver.read_into w (receiver_of e) d (Ok (Some p))))
      go true z = rw z (told_both (eqb (receiver.values_answer w e.receiver d p) 0) (packet_told w e d p))
      go false z = inl (rw (z, z) refl)

  both_or_neither : sender_tests.consistent_of w cap e.sender ≡ true → receiver_tests.sound_of w cap e.receiver (length e.store) ≡ true
      → (receive_of w cap e d ≡ e) ⊎ (receive_of w cap e d ≡ paired (sender.acknowledge_of w cap e.sender d) (receiver.receive_of w cap (receiver_of e) d))
  unfolding receive_of sender.acknowledge_of receiver.receive_of
  both_or_neither s r = rw (halves_sound w cap e s r, s, r) (read_both (read_of d))

module _ (w cap : ℕ) (lw : 0 < w) (uw : w ≤ cap) (e : Endpoint) (h : Sound w cap e) where
  -- a sender's record that is consistent is sound with the same store
  with_store : (q : Sender) → sender_tests.consistent_of w cap q ≡ true → sender_tests.sound_of w cap q (length e.sent) ≡ true
  unfolding sound_with
  with_store q k = all_every _ (k, (eq-eqb _ _ (sound_facts w cap e.halves.sender (length e.sent) h.sender).1, tt))

  consistent : sender_tests.consistent_of w cap e.halves.sender ≡ true
  consistent = (sound_facts w cap e.halves.sender (length e.sent) h.sender).0

  receive_sound : (d : List ℕ) → Sound w cap (record { halves = receive_of w cap e.halves d; sent = e.sent })
  receive_sound d =
      ⊎_elim
      (λ q. subst (λ (x : Halves). Sound w cap (record { halves = x; sent = e.sent })) (sym q) h)
      (λ q. subst (λ (x : Halves). Sound w cap (record { halves = x; sent = e.sent })) (sym q)
      (record {
        sender = with_store _ (acknowledge_keeps w cap lw uw e.halves.sender d consistent);
        receiver = receive_keeps w cap (receiver_of e.halves) d lw uw h.receiver;
      }))
      (both_or_neither w cap e.halves d consistent h.receiver)

  pub call_sound : (c : Call) → Sound w cap (call_of w cap e c)
  unfolding call_of
  call_sound (receives d) = receive_sound d
  call_sound (takes room) = record { sender = h.sender; receiver = take_keeps w cap (receiver_of e.halves) room lw uw h.receiver }
  call_sound (acknowledges stamp gap room) = h
  call_sound (sends tick block room) = record { sender = new_sound w cap lw uw (sending_of e) tick block room h.sender; receiver = h.receiver }
  call_sound (resends tick room) = record { sender = resend_sound w cap lw uw (sending_of e) tick room h.sender; receiver = h.receiver }
  call_sound (sweeps tick) = record { sender = with_store _ (sweep_keeps w cap lw uw e.halves.sender tick consistent); receiver = h.receiver }

-- what opening accepts
pub record Opened (firstdata firstchannel timeout : ℕ) : Type 0 where
  pub number : firstdata ≤ highest_first
  pub channel : firstchannel ≤ highest_first
  pub shortest : shortest_timeout ≤ timeout
  pub longest : timeout ≤ longest_timeout

pub opened : (firstdata firstchannel timeout : ℕ) → open_answer firstdata firstchannel timeout ≡ 0 → Opened firstdata firstchannel timeout
unfolding open_answer
opened n c t a =
    let k = all_pass (open_tests n c t) (omega arith) (sym a) in
    record {
      number = ltb-false highest_first n k.0;
      channel = ltb-false highest_first c k.1.0;
      shortest = ltb-false t shortest_timeout k.1.1.0;
      longest = ltb-false longest_timeout t k.1.1.1.0;
    }

module _ (w cap : ℕ) (lw : 0 < w) (uw : w ≤ cap) (n c t : ℕ) (o : Opened n c t) where
  place : (m : ℕ) → number_at w (sending.fresh_of cap n c t) m ≡ no_number
  place m = always cap (m % w) no_number

  block : (m : ℕ) → block_at w (sending.fresh_of cap n c t) m ≡ no_block
  block m = always cap (m % w) no_block

  sender_facts_lem : sender_facts.Facts w cap (sending.fresh_of cap n c t)
  sender_facts_lem =
      record {
        some = lw;
        fits = uw;
        numbers = length-replicate cap no_number;
        blocks = length-replicate cap no_block;
        bounds = record {
          firstdata = o.number;
          firstchannel = o.channel;
          shortest = o.shortest;
          longest = o.longest;
          low = omega arith;
          next = omega arith;
          full = omega (arith, o.number);
          room = omega arith;
          channellow = omega arith;
          channelnext = omega arith;
          channelfull = omega (arith, o.channel);
          channelroom = omega arith;
        };
        low_stands = ap number_passes (place n);
        channel_stands = ap is_acknowledged (block c);
        pending = λ m l u p. clash (is_pending (number_at w (sending.fresh_of cap n c t) m)) p (ap is_pending (place m));
        done = λ m l u p. absurd (omega arith);
        unused = λ m l u. place m;
        short = λ m l u. absurd (omega arith);
        begun = λ m l u. absurd (omega arith);
        few = λ m l u. absurd (omega arith);
        rests = λ m l u p. absurd (omega arith);
        vacant = λ m l u. block m;
        single = λ m l u p. absurd (omega arith);
        only = λ m k lm um lk uk p q e. clash (is_pending (number_at w (sending.fresh_of cap n c t) m)) p (ap is_pending (place m));
        spare_numbers = λ i l. always cap i no_number;
        spare_blocks = λ i l. always cap i no_block;
      }

  pub fresh_halves : (store sent : List ℕ) → length store ≡ store_size w → length sent ≡ store_size w → Sound w cap (fresh_of cap n c t store sent)
  unfolding sound_with
  fresh_halves store sent ls lt =
      record {
        sender = all_every _ (sender_facts.facts_consistent w cap (sending.fresh_of cap n c t) sender_facts_lem, (eq-eqb _ _ lt, tt));
        receiver = receiver_facts.facts_sound w cap _ (length store) (fresh_facts w cap n c o.number o.channel) ls;
      }
