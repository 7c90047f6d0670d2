-- The laws that the two theorems on order stand on: a history of an endpoint is that of the half which its datagrams reach.
use Rattle.std.specs.Prelude.{ℕ, ◌≤◌, ◌<◌, true, false, ◌||◌, ◌≡◌, length}
use Rattle.std.proofs.Math.Bool.{Bool, cond}
use mathlib.Core.List.Memᴰ
use mathlib.Core.List.{List, [], ◌∷◌, ◌++◌}
use Rattle.std.proofs.Math.Path.{refl, ap, subst}
use Rattle.std.proofs.Common.{sym, ◌∙◌}
use Rattle.common.specs.Facts.{clash}
use Rattle.window.specs.Members.{In}
use Rattle.receiver.specs.Record as receiving
use Rattle.receiver.specs.Consistent as receiver_tests
use Rattle.receiver.specs.Receive as receiver
use Rattle.receiver.specs.History.{Event, arrives, takes, step_of, run_of, handed_of, datagrams_of}
use Rattle.receiver.specs.StaysConsistent.{receive_keeps, take_keeps}
use Rattle.sender.specs.declared.Sender.{Sender}
use Rattle.sender.specs.Consistent as sender_tests
use Rattle.sender.specs.Record.{remembering}
use Rattle.sender.specs.Acknowledge.{acknowledge_answer, acknowledge_of}
use Rattle.sender.specs.Remembering.{remembered_after, is_heard, Sized, heard_sized, unheard, consistent_remembering, acknowledge_remembers}
use Rattle.sender.specs.Run.{run, any_of, accepted_in, accepted_alike, or_assoc, later_or}
use Rattle.sender.specs.AnyOrder.{answered_alike}
use Rattle.sender.specs.StaysConsistent.{acknowledge_keeps}
use Rattle.endpoint.specs.Receive.{Halves}
use Rattle.endpoint.specs.Calls.{Endpoint, Call, receives, call_of, calls_of}
use Rattle.endpoint.specs.History.{NoAck, OnlyAck, call_for, after, given_by, handed_by, handed, Between, nothing, tells, brings, taken, written, brought_in}
use Rattle.endpoint.specs.Steps.{paired, no_ack_of, ack_of}

-- the halves in some states, with the sender's store
abbrev pub both : List ℕ → Sender → receiving.State → Endpoint
both sent s r = record { halves = paired s r; sent = sent }

-- an endpoint with these halves and this store, whatever LogWindowSize its sender's half remembers
abbrev pub Comes : List ℕ → Sender → receiving.State → Endpoint → Type 0
Comes sent s r x = x ≡ both sent (remembering x.halves.sender.logwindow s) r

-- none of the datagrams has an acknowledgement
abbrev pub Plain : List (List ℕ) → Type 0
Plain ds = (d : List ℕ) → In d ds → NoAck d

-- The endpoint's history is its receiver's; the sender's half stays as it was, but for the LogWindowSize.
module _ (w cap : ℕ) (sent : List ℕ) (s : Sender) (h : sender_tests.consistent_of w cap s ≡ true) where
  arrived : (k : ℕ) (r : receiving.State) (d : List ℕ) → NoAck d
      → call_of w cap (both sent (remembering k s) r) (call_for (arrives d))
      ≡ both sent (remembering (remembered_after (receiver.receive_answer w cap r d) d k) s) (step_of w cap r (arrives d))
  unfolding call_of
  arrived k r d only =
      ap (λ (x : Halves). record { halves = x; sent = sent })
      (no_ack_of w cap (paired (remembering k s) r) d only (consistent_remembering k w cap s ∙ h))

  pub after_is : (k : ℕ) (r : receiving.State) (es : List Event) → Plain (datagrams_of es)
      → Comes sent s (run_of w cap r es) (after w cap (both sent (remembering k s) r) es)
  unfolding calls_of call_of run_of datagrams_of
  after_is k r [] only = refl
  after_is k r (arrives d ∷ es) only =
      subst (λ (x : Endpoint). Comes sent s (run_of w cap (step_of w cap r (arrives d)) es) (after w cap x es)) (sym (arrived k r d (only d (Memᴰ.head refl))))
      (after_is (remembered_after (receiver.receive_answer w cap r d) d k) (step_of w cap r (arrives d)) es (λ x i. only x (Memᴰ.tail i)))
  after_is k r (takes room ∷ es) only = after_is k (step_of w cap r (takes room)) es only

  -- Where all carry the same, it is remembered exactly if one of them is accepted.
  pub after_field : (size k : ℕ) (r : receiving.State) (es : List Event) → Plain (datagrams_of es) → ((d : List ℕ) → In d (datagrams_of es) → Sized size d)
      → (after w cap (both sent (remembering k s) r) es).halves.sender.logwindow ≡ cond (brought_in w cap r es) size k
  unfolding calls_of call_of brought_in datagrams_of
  after_field size k r [] only sized = refl
  after_field size k r (arrives d ∷ es) only sized =
      ap (λ (x : Endpoint). (after w cap x es).halves.sender.logwindow) (arrived k r d (only d (Memᴰ.head refl)))
      ∙ after_field size (remembered_after (receiver.receive_answer w cap r d) d k) (step_of w cap r (arrives d)) es (λ x i. only x (Memᴰ.tail i))
      (λ x i. sized x (Memᴰ.tail i))
      ∙ ap (λ (j : ℕ). cond (brought_in w cap (step_of w cap r (arrives d)) es) size j)
      (heard_sized size d (sized d (Memᴰ.head refl)) (receiver.receive_answer w cap r d) k)
      ∙ later_or (brought_in w cap (step_of w cap r (arrives d)) es) (is_heard (receiver.receive_answer w cap r d) d) size k
  after_field size k r (takes room ∷ es) only sized = after_field size k (step_of w cap r (takes room)) es only sized

  pub handed_is : (k : ℕ) (r : receiving.State) (es : List Event) → Plain (datagrams_of es) → handed w cap (both sent (remembering k s) r) es ≡ handed_of w cap r es
  unfolding handed_by call_of handed_of datagrams_of
  handed_is k r [] only = refl
  handed_is k r (arrives d ∷ es) only =
      ap (λ (x : Endpoint). handed w cap x es) (arrived k r d (only d (Memᴰ.head refl)))
      ∙ handed_is (remembered_after (receiver.receive_answer w cap r d) d k) (step_of w cap r (arrives d)) es (λ x i. only x (Memᴰ.tail i))
  handed_is k r (takes room ∷ es) only =
      ap (λ (l : List (List ℕ)). given_by w cap (both sent (remembering k s) r) (call_for (takes room)) ++ l) (handed_is k (step_of w cap r (takes room)) es only)

-- Acknowledgements with other calls between: the sender's half runs by the acknowledgements alone, and the receiver's by what stands between.
pub between_plain : {cs : List Call} {ds : List (List ℕ)} {es : List Event} → Between cs ds es → Plain (datagrams_of es)
unfolding datagrams_of
between_plain nothing x m = elim m [ ]
between_plain (tells d o b) x m = between_plain b x m
between_plain (brings d o b) x (Memᴰ.head q) = subst NoAck (sym q) o
between_plain (brings d o b) x (Memᴰ.tail m) = between_plain b x m
between_plain (taken room b) x m = between_plain b x m
between_plain (written stamp gap room b) x m = between_plain b x m

pub between_acks : {cs : List Call} {ds : List (List ℕ)} {es : List Event} → Between cs ds es → (d : List ℕ) → In d ds → OnlyAck d
between_acks nothing x m = elim m [ ]
between_acks (tells d o b) x (Memᴰ.head q) = subst OnlyAck (sym q) o
between_acks (tells d o b) x (Memᴰ.tail m) = between_acks b x m
between_acks (brings d o b) x m = between_acks b x m
between_acks (taken room b) x m = between_acks b x m
between_acks (written stamp gap room b) x m = between_acks b x m

pub run_sound : (w cap : ℕ) → 0 < w → w ≤ cap → (r : receiving.State) (es : List Event) → receiver_tests.sound_of w cap r.receiver (length r.store) ≡ true
    → receiver_tests.sound_of w cap (run_of w cap r es).receiver (length (run_of w cap r es).store) ≡ true
unfolding run_of
run_sound w cap lw uw r [] h = h
run_sound w cap lw uw r (arrives d ∷ es) h = run_sound w cap lw uw (step_of w cap r (arrives d)) es (receive_keeps w cap r d lw uw h)
run_sound w cap lw uw r (takes room ∷ es) h = run_sound w cap lw uw (step_of w cap r (takes room)) es (take_keeps w cap r room lw uw h)

neither : (a b : Bool) → (a || b) ≡ false → (a ≡ false) × (b ≡ false)
neither true b h = clash true refl h
neither false b h = (refl, h)

or_between : (a b c : Bool) → (b || (a || c)) ≡ (a || (b || c))
or_between true true c = refl
or_between true false c = refl
or_between false b c = refl

module _ (w cap : ℕ) (lw : 0 < w) (uw : w ≤ cap) (sent : List ℕ) where
  told : (k : ℕ) (s : Sender) (r : receiving.State) (d : List ℕ) → OnlyAck d → receiver_tests.sound_of w cap r.receiver (length r.store) ≡ true
      → call_of w cap (both sent (remembering k s) r) (receives d)
      ≡ both sent (remembering (remembered_after (acknowledge_answer w cap s d) d k) (acknowledge_of w cap s d)) r
  unfolding call_of
  told k s r d only h =
      ap (λ (x : Halves). record { halves = x; sent = sent }) (ack_of w cap (paired (remembering k s) r) d only h)
      ∙ ap (λ (q : Sender). both sent q r) (acknowledge_remembers k w cap s d)

  pub between_is : {cs : List Call} {ds : List (List ℕ)} {es : List Event} → Between cs ds es → (k : ℕ) (s : Sender) (r : receiving.State)
      → sender_tests.consistent_of w cap s ≡ true → receiver_tests.sound_of w cap r.receiver (length r.store) ≡ true
      → Comes sent (run w cap s ds) (run_of w cap r es) (calls_of w cap (both sent (remembering k s) r) cs)
  unfolding calls_of call_of run run_of
  between_is nothing k s r p q = refl
  between_is (tells {cs} {ds} {es} d o b) k s r p q =
      subst (λ (x : Endpoint). Comes sent (run w cap (acknowledge_of w cap s d) ds) (run_of w cap r es) (calls_of w cap x cs)) (sym (told k s r d o q))
      (between_is b (remembered_after (acknowledge_answer w cap s d) d k) (acknowledge_of w cap s d) r (acknowledge_keeps w cap lw uw s d p) q)
  between_is (brings {cs} {ds} {es} d o b) k s r p q =
      subst (λ (x : Endpoint). Comes sent (run w cap s ds) (run_of w cap (step_of w cap r (arrives d)) es) (calls_of w cap x cs)) (sym (arrived w cap sent s p k r d o))
      (between_is b (remembered_after (receiver.receive_answer w cap r d) d k) s (step_of w cap r (arrives d)) p (receive_keeps w cap r d lw uw q))
  between_is (taken room b) k s r p q = between_is b k s (step_of w cap r (takes room)) p (take_keeps w cap r room lw uw q)
  between_is (written stamp gap room b) k s r p q = between_is b k s r p q

  -- Where all carry the same LogWindowSize, it is remembered exactly if one of them is accepted.
  pub between_field : {cs : List Call} {ds : List (List ℕ)} {es : List Event} → Between cs ds es → (size k : ℕ) (s : Sender) (r : receiving.State)
      → sender_tests.consistent_of w cap s ≡ true → receiver_tests.sound_of w cap r.receiver (length r.store) ≡ true
      → ((d : List ℕ) → In d ds → Sized size d) → ((d : List ℕ) → In d (datagrams_of es) → Sized size d)
      → (calls_of w cap (both sent (remembering k s) r) cs).halves.sender.logwindow ≡ cond (accepted_in w cap s ds || brought_in w cap r es) size k
  unfolding calls_of call_of accepted_in any_of brought_in datagrams_of run
  between_field nothing size k s r p q x y = refl
  between_field (tells {cs} {ds} {es} d o b) size k s r p q x y =
      let a : Bool = is_heard (acknowledge_answer w cap s d) d in
      ap (λ (z : Endpoint). (calls_of w cap z cs).halves.sender.logwindow) (told k s r d o q)
      ∙ between_field b size (remembered_after (acknowledge_answer w cap s d) d k) (acknowledge_of w cap s d) r (acknowledge_keeps w cap lw uw s d p) q
      (λ z i. x z (Memᴰ.tail i)) y
      ∙ ap (λ (z : Bool). cond (z || brought_in w cap r es) size (remembered_after (acknowledge_answer w cap s d) d k))
      (accepted_alike w cap s (acknowledge_of w cap s d) (answered_alike w cap lw uw s p (d ∷ [])) ds)
      ∙ ap (λ (j : ℕ). cond (accepted_in w cap s ds || brought_in w cap r es) size j)
      (heard_sized size d (x d (Memᴰ.head refl)) (acknowledge_answer w cap s d) k)
      ∙ later_or (accepted_in w cap s ds || brought_in w cap r es) a size k
      ∙ ap (λ (z : Bool). cond z size k) (sym (or_assoc a (accepted_in w cap s ds) (brought_in w cap r es)))
  between_field (brings {cs} {ds} {es} d o b) size k s r p q x y =
      let a : Bool = is_heard (receiver.receive_answer w cap r d) d in
      let c : Bool = brought_in w cap (step_of w cap r (arrives d)) es in
      ap (λ (z : Endpoint). (calls_of w cap z cs).halves.sender.logwindow) (arrived w cap sent s p k r d o)
      ∙ between_field b size (remembered_after (receiver.receive_answer w cap r d) d k) s (step_of w cap r (arrives d)) p (receive_keeps w cap r d lw uw q)
      x (λ z i. y z (Memᴰ.tail i))
      ∙ ap (λ (j : ℕ). cond (accepted_in w cap s ds || c) size j) (heard_sized size d (y d (Memᴰ.head refl)) (receiver.receive_answer w cap r d) k)
      ∙ later_or (accepted_in w cap s ds || c) a size k
      ∙ ap (λ (z : Bool). cond z size k) (or_between (accepted_in w cap s ds) a c)
  between_field (taken room b) size k s r p q x y = between_field b size k s (step_of w cap r (takes room)) p (take_keeps w cap r room lw uw q) x y
  between_field (written stamp gap room b) size k s r p q x y = between_field b size k s r p q x y

  -- Where none is accepted, what was remembered stays, whatever they carry.
  pub between_stays : {cs : List Call} {ds : List (List ℕ)} {es : List Event} → Between cs ds es → (k : ℕ) (s : Sender) (r : receiving.State)
      → sender_tests.consistent_of w cap s ≡ true → receiver_tests.sound_of w cap r.receiver (length r.store) ≡ true
      → accepted_in w cap s ds ≡ false → brought_in w cap r es ≡ false
      → (calls_of w cap (both sent (remembering k s) r) cs).halves.sender.logwindow ≡ k
  unfolding calls_of call_of accepted_in any_of brought_in run
  between_stays nothing k s r p q x y = refl
  between_stays (tells {cs} {ds} d o b) k s r p q x y =
      let (h, x') = neither (is_heard (acknowledge_answer w cap s d) d) _ x in
      ap (λ (z : Endpoint). (calls_of w cap z cs).halves.sender.logwindow) (told k s r d o q)
      ∙ between_stays b (remembered_after (acknowledge_answer w cap s d) d k) (acknowledge_of w cap s d) r (acknowledge_keeps w cap lw uw s d p) q
      (accepted_alike w cap s (acknowledge_of w cap s d) (answered_alike w cap lw uw s p (d ∷ [])) ds ∙ x') y
      ∙ unheard d (acknowledge_answer w cap s d) k h
  between_stays (brings {cs} d o b) k s r p q x y =
      let (h, y') = neither (is_heard (receiver.receive_answer w cap r d) d) _ y in
      ap (λ (z : Endpoint). (calls_of w cap z cs).halves.sender.logwindow) (arrived w cap sent s p k r d o)
      ∙ between_stays b (remembered_after (receiver.receive_answer w cap r d) d k) s (step_of w cap r (arrives d)) p (receive_keeps w cap r d lw uw q) x y'
      ∙ unheard d (receiver.receive_answer w cap r d) k h
  between_stays (taken room b) k s r p q x y = between_stays b k s (step_of w cap r (takes room)) p (take_keeps w cap r room lw uw q) x y
  between_stays (written stamp gap room b) k s r p q x y = between_stays b k s r p q x y

  pub between_hands : {cs : List Call} {ds : List (List ℕ)} {es : List Event} → Between cs ds es → (k : ℕ) (s : Sender) (r : receiving.State)
      → sender_tests.consistent_of w cap s ≡ true → receiver_tests.sound_of w cap r.receiver (length r.store) ≡ true
      → handed_by w cap (both sent (remembering k s) r) cs ≡ handed_of w cap r es
  unfolding handed_by call_of handed_of
  between_hands nothing k s r p q = refl
  between_hands (tells {cs} d o b) k s r p q =
      ap (λ (x : Endpoint). handed_by w cap x cs) (told k s r d o q)
      ∙ between_hands b (remembered_after (acknowledge_answer w cap s d) d k) (acknowledge_of w cap s d) r (acknowledge_keeps w cap lw uw s d p) q
  between_hands (brings {cs} d o b) k s r p q =
      ap (λ (x : Endpoint). handed_by w cap x cs) (arrived w cap sent s p k r d o)
      ∙ between_hands b (remembered_after (receiver.receive_answer w cap r d) d k) s (step_of w cap r (arrives d)) p (receive_keeps w cap r d lw uw q)
  between_hands (taken room b) k s r p q =
      ap (λ (l : List (List ℕ)). given_by w cap (both sent (remembering k s) r) (call_for (takes room)) ++ l)
      (between_hands b k s (step_of w cap r (takes room)) p (take_keeps w cap r room lw uw q))
  between_hands (written stamp gap room b) k s r p q = between_hands b k s r p q
