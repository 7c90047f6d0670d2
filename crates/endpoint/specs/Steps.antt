-- What one datagram does to an endpoint, half by half: one that tells the sender nothing goes to the receiver alone, but for its LogWindowSize, and one that brings
-- the receiver nothing goes to the sender alone.
use Rattle.std.specs.Prelude.{ℕ, Bool, List, ◌⊎◌, ◌≡◌, length, eqb, Err, Ok, Some, None}
use Rattle.std.proofs.Math.Bool.{true, false, cond}
use Rattle.std.proofs.Common.{inl, inr, sym, ◌∙◌, eqb-true}
use Rattle.std.proofs.Math.Option.{Option, none, some}
use Rattle.std.proofs.Math.Path.{refl, ap}
use Rattle.common.specs.Every.{every}
use Rattle.common.specs.EveryLaws.{every_all, all_every}
use Rattle.common.specs.Answer.{no_of}
use Rattle.wire.specs.declared.Values.{Values}
use Rattle.wire.specs.declared.Packet.{Packet}
use Rattle.wire.specs.Flags.{ack_in, vector_in}
use Rattle.wire.specs.Read.{read_of, Reading}
use Rattle.wire.specs.Same.{body_in}
use Rattle.receiver.specs.declared.Receiver.{Receiver}
use Rattle.receiver.specs.Record as receiving
use Rattle.receiver.specs.Consistent as receiver_tests
use Rattle.receiver.specs.Packet.{Arrival, nothing, waiver, content, arrival_answer, arrival_of}
use Rattle.receiver.specs.Packet as arriving
use Rattle.receiver.specs.Receive.{answer_for, state_for, arrival_from, waiver_from}
use Rattle.receiver.specs.Receive as receiver
use Rattle.sender.specs.declared.Sender.{Sender}
use Rattle.sender.specs.Consistent as sender_tests
use Rattle.sender.specs.Record.{remembering}
use Rattle.sender.specs.Acknowledge.{Told, silent, told_answer, told_of, told_by}
use Rattle.sender.specs.Acknowledge as sender
use Rattle.sender.specs.Remembering.{size_in, remembered_after, either_way}
use Rattle.endpoint.specs.History.{OnlyData, OnlyAck, NoAck}
use Rattle.endpoint.specs.Receive.{Halves, receiver_of, sound_of, packet_answer, packet_told, packet_of, read_answer, read_into, receive_answer, receive_of}

-- a sender's half and a receiver's
abbrev pub paired : Sender → receiving.State → Halves
paired s r = record { sender = s; receiver = r.receiver; store = r.store }

-- Both halves sound.
pub halves_sound : (w cap : ℕ) (e : Halves) → sender_tests.consistent_of w cap e.sender ≡ true
    → receiver_tests.sound_of w cap e.receiver (length e.store) ≡ true → sound_of w cap e ≡ true
unfolding sound_of
halves_sound w cap e s r = all_every _ (s, (r, tt))

pub sound_halves : (w cap : ℕ) (e : Halves) → sound_of w cap e ≡ true
    → (sender_tests.consistent_of w cap e.sender ≡ true) × (receiver_tests.sound_of w cap e.receiver (length e.store) ≡ true)
unfolding sound_of
sound_halves w cap e h = let a = every_all _ h in (a.0, a.1.0)

again : {A : Type 0} (b : Bool) (x y : A) → cond b (cond b x y) y ≡ cond b x y
again true x y = refl
again false x y = refl

-- What a half is left with is as given where that half refuses.
brought_left : (w : ℕ) (s : receiving.State) (o : Option Arrival)
    → cond (eqb (answer_for w s.receiver o) 0) (state_for w s o) s ≡ state_for w s o
unfolding arrival_answer arrival_of arriving.packet_of
brought_left w s none = refl
brought_left w s (some nothing) = refl
brought_left w s (some (waiver v)) = again (eqb (arrival_answer w s.receiver (waiver v)) 0) _ s
brought_left w s (some (content p)) = again (eqb (arriving.packet_answer w s.receiver p) 0) _ s

values_left : (w : ℕ) (s : receiving.State) (d : List ℕ) (p : Packet)
    → cond (eqb (receiver.values_answer w s.receiver d p) 0) (receiver.values_of w s d p) s ≡ receiver.values_of w s d p
unfolding receiver.values_answer receiver.values_of
values_left w s d p = brought_left w s (arrival_from s.receiver p.values (body_in d p))

-- a half that remembers k where it accepts
cond_accepted : (b : Bool) (k : ℕ) (s : Sender) (x y : receiving.State)
    → cond b (paired (remembering k s) x) (paired s y) ≡ paired (remembering (cond b k s.logwindow) s) (cond b x y)
cond_accepted true k s x y = refl
cond_accepted false k s x y = refl

cond_sender : (b : Bool) (s t : Sender) (x : receiving.State) → cond b (paired s x) (paired t x) ≡ paired (cond b s t) x
cond_sender true s t x = refl
cond_sender false s t x = refl

-- A packet that tells the sender nothing.
module _ (w : ℕ) (e : Halves) (d : List ℕ) (p : Packet) (t : told_by e.sender d p ≡ silent) where
  quiet_answer : packet_answer w e d p ≡ receiver.values_answer w e.receiver d p
  unfolding packet_answer told_answer
  quiet_answer = rw t refl

  quiet_told : packet_told w e d p ≡ paired (remembering p.values.logwindow e.sender) (receiver.values_of w (receiver_of e) d p)
  unfolding told_of
  quiet_told =
      ap (λ (m : Told). paired (remembering p.values.logwindow (told_of w e.sender m)) (receiver.values_of w (receiver_of e) d p)) t

  -- the field that is left
  abbrev quiet_field : ℕ
  quiet_field = cond (eqb (receiver.values_answer w e.receiver d p) 0) p.values.logwindow e.sender.logwindow

  quiet_of : packet_of w e d p ≡ paired (remembering quiet_field e.sender) (receiver.values_of w (receiver_of e) d p)
  unfolding packet_of
  quiet_of =
      ap (λ (n : ℕ). cond (eqb n 0) (packet_told w e d p) e) quiet_answer
      ∙ ap (λ (x : Halves). cond (eqb (receiver.values_answer w e.receiver d p) 0) x e) quiet_told
      ∙ cond_accepted (eqb (receiver.values_answer w e.receiver d p) 0) p.values.logwindow e.sender (receiver.values_of w (receiver_of e) d p) (receiver_of e)
      ∙ ap (paired (remembering quiet_field e.sender)) (values_left w (receiver_of e) d p)

same : (b : Bool) → cond b true false ≡ b
same true = refl
same false = refl

zero_or : (n : ℕ) → cond (eqb n 0) 0 n ≡ n
zero_or n = go (eqb n 0) refl
  where
    go : (b : Bool) → eqb n 0 ≡ b → cond b 0 n ≡ n
    go true e = sym (eqb-true n 0 e)
    go false e = refl

-- A packet that brings the receiver nothing.
module _ (w : ℕ) (e : Halves) (d : List ℕ) (p : Packet) (t : arrival_from e.receiver p.values (body_in d p) ≡ some nothing) where
  idle_answer : packet_answer w e d p ≡ told_answer e.sender (told_by e.sender d p)
  unfolding packet_answer receiver.values_answer arrival_answer
  idle_answer = rw t (zero_or (told_answer e.sender (told_by e.sender d p)))

  idle_told : packet_told w e d p ≡ paired (sender.packet_told w e.sender d p) (receiver_of e)
  unfolding receiver.values_of arrival_of
  idle_told = ap (λ (o : Option Arrival). paired (sender.packet_told w e.sender d p) (state_for w (receiver_of e) o)) t

  idle_of : packet_of w e d p ≡ paired (sender.packet_of w e.sender d p) (receiver_of e)
  unfolding packet_of sender.packet_of
  idle_of =
      ap (λ (n : ℕ). cond (eqb n 0) (packet_told w e d p) e) idle_answer
      ∙ ap (λ (x : Halves). cond (eqb (told_answer e.sender (told_by e.sender d p)) 0) x e) idle_told
      ∙ cond_sender (eqb (told_answer e.sender (told_by e.sender d p)) 0) (sender.packet_told w e.sender d p) e.sender (receiver_of e)

-- Data alone has no acknowledgement, and a packet with none tells the sender nothing.
pub data_no_ack : (d : List ℕ) → OnlyData d → NoAck d
data_no_ack d only p q = go p.values.flags (only p q)
  where
    go : (flags : ℕ) → (flags ≡ 4) ⊎ (flags ≡ 20) → (ack_in flags ≡ false) × (vector_in flags ≡ false)
    go flags (inl f) = (ap ack_in f, ap vector_in f)
    go flags (inr f) = (ap ack_in f, ap vector_in f)

tells_nothing : (s : Sender) (d : List ℕ) (p : Packet) → (ack_in p.values.flags ≡ false) × (vector_in p.values.flags ≡ false) → told_by s d p ≡ silent
unfolding told_by
tells_nothing s d p f = rw (f.0, f.1) refl

brings_nothing : (r : Receiver) (v : Values) (block : List ℕ) → (v.flags ≡ 1) ⊎ (v.flags ≡ 8) → arrival_from r v block ≡ some nothing
unfolding arrival_from waiver_from
brings_nothing r v block (inl f) = rw f refl
brings_nothing r v block (inr f) = rw f refl

-- No acknowledgement: the endpoint answers as its receiver's half does, and only that half changes, but for the LogWindowSize that the sender's remembers.
module _ (w cap : ℕ) (e : Halves) (d : List ℕ) (only : NoAck d) (s : sender_tests.consistent_of w cap e.sender ≡ true) where
  -- the field after a datagram that reads so, and is answered so
  abbrev field_by : ℕ → Reading → ℕ
  field_by answer x = cond (eqb answer 0) (size_in x e.sender.logwindow) e.sender.logwindow

  read_quiet : (r : Reading) → read_of d ≡ r
      → (read_answer w e d r ≡ receiver.read_answer w e.receiver d r)
      × (read_into w e d r ≡ paired (remembering (field_by (receiver.read_answer w e.receiver d r) r) e.sender) (receiver.read_into w (receiver_of e) d r))
  unfolding read_answer read_into receiver.read_answer receiver.read_into size_in
  read_quiet (Err n) q = (refl, ap (λ (k : ℕ). paired (remembering k e.sender) (receiver_of e)) (sym (either_way (eqb (no_of n) 0) e.sender.logwindow)))
  read_quiet (Ok None) q = (refl, refl)
  read_quiet (Ok (Some p)) q =
      let t : told_by e.sender d p ≡ silent = tells_nothing e.sender d p (only p q) in (quiet_answer w e d p t, quiet_of w e d p t)

  sound_is : sound_of w cap e ≡ receiver_tests.sound_of w cap e.receiver (length e.store)
  unfolding sound_of every
  sound_is = rw s (same (receiver_tests.sound_of w cap e.receiver (length e.store)))

  pub no_ack_answer : receive_answer w cap e d ≡ receiver.receive_answer w cap (receiver_of e) d
  unfolding receive_answer receiver.receive_answer
  no_ack_answer = rw sound_is (ap (λ (n : ℕ). cond (receiver_tests.sound_of w cap e.receiver (length e.store)) n 13) (read_quiet (read_of d) refl).0)

  pub no_ack_of : receive_of w cap e d
      ≡ paired (remembering (remembered_after (receiver.receive_answer w cap (receiver_of e) d) d e.sender.logwindow) e.sender) (receiver.receive_of w cap (receiver_of e) d)
  unfolding receive_of receiver.receive_of receiver.receive_answer
  no_ack_of =
      rw sound_is
      (ap (λ (x : Halves). cond (receiver_tests.sound_of w cap e.receiver (length e.store)) x e) (read_quiet (read_of d) refl).1
      ∙ go (receiver_tests.sound_of w cap e.receiver (length e.store)))
    where
      go : (b : Bool)
          → cond b (paired (remembering (field_by (receiver.read_answer w e.receiver d (read_of d)) (read_of d)) e.sender) (receiver.read_into w (receiver_of e) d (read_of d))) e
          ≡ paired (remembering (field_by (cond b (receiver.read_answer w e.receiver d (read_of d)) 13) (read_of d)) e.sender)
          (cond b (receiver.read_into w (receiver_of e) d (read_of d)) (receiver_of e))
      go true = refl
      go false = refl

-- An acknowledgement alone: the endpoint answers as its sender's half does, and only that half changes.
module _ (w cap : ℕ) (e : Halves) (d : List ℕ) (only : OnlyAck d) (r : receiver_tests.sound_of w cap e.receiver (length e.store) ≡ true) where
  read_idle : (x : Reading) → read_of d ≡ x
      → (read_answer w e d x ≡ sender.read_answer e.sender d x) × (read_into w e d x ≡ paired (sender.read_into w e.sender d x) (receiver_of e))
  unfolding read_answer read_into sender.read_answer sender.read_into
  read_idle (Err n) q = (refl, refl)
  read_idle (Ok None) q = (refl, refl)
  read_idle (Ok (Some p)) q =
      let t : arrival_from e.receiver p.values (body_in d p) ≡ some nothing = brings_nothing e.receiver p.values (body_in d p) (only p q) in
      (idle_answer w e d p t, idle_of w e d p t)

  consistent_is : sound_of w cap e ≡ sender_tests.consistent_of w cap e.sender
  unfolding sound_of every
  consistent_is = rw r (same (sender_tests.consistent_of w cap e.sender))

  pub ack_answer : receive_answer w cap e d ≡ sender.acknowledge_answer w cap e.sender d
  unfolding receive_answer sender.acknowledge_answer
  ack_answer = rw consistent_is (ap (λ (n : ℕ). cond (sender_tests.consistent_of w cap e.sender) n 13) (read_idle (read_of d) refl).0)

  pub ack_of : receive_of w cap e d ≡ paired (sender.acknowledge_of w cap e.sender d) (receiver_of e)
  unfolding receive_of sender.acknowledge_of
  ack_of =
      rw consistent_is
      (ap (λ (x : Halves). cond (sender_tests.consistent_of w cap e.sender) x e) (read_idle (read_of d) refl).1
      ∙ cond_sender (sender_tests.consistent_of w cap e.sender) _ e.sender (receiver_of e))
