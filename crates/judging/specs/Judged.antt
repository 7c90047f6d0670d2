-- Judging and then applying is what the definitions of Receive say: the answer's number, and the state that is left.
use Rattle.std.specs.Prelude.{ℕ, Bool, true, false, cond, List, [], ◌∷◌, ◌≡◌, refl, eqb, ltb, Ok, Err}
use Rattle.std.proofs.Math.Option.{Option, none, some}
use Rattle.std.proofs.Common.{sym, ◌∙◌, ap, eqb-true, eq-eqb}
use Rattle.common.specs.Facts.{clash}
use Rattle.common.specs.declared.Refusal.{Refusal}
use Rattle.common.specs.declared.Refusal.TheVariants.{OutOfPlace}
use Rattle.common.specs.Answer.{number_of, refusal_of, settled, is_answer, no_back, refusal_back, settled_err}
use Rattle.common.specs.Order.{Test, test, first}
use Rattle.numbers.specs.Full.{highest}
use Rattle.wire.specs.declared.Packet.{Packet as WirePacket}
use Rattle.wire.specs.declared.Values.{Values}
use Rattle.wire.specs.Flags.{data_in, aoa_in}
use Rattle.wire.specs.Same.{body_in}
use Rattle.receiver.specs.declared.Receiver.{Receiver}
use Rattle.judging.specs.declared.Arrived.{Arrived}
use Rattle.judging.specs.declared.Arrived.TheVariants.{Waiver, Content}
use Rattle.receiver.specs.Record.{State}
use Rattle.receiver.specs.Packet.{Packet, Arrival, nothing, waiver, content, waived, number_tests, numbers_answer, packet_answer, arrival_answer, receiver_after, waiver_after, store_after, packet_of, arrival_of}
use Rattle.receiver.specs.Receive.{on_some, data_number, channel_number, aoa_number, packet_from, waiver_from, arrival_from, answer_for, state_for, values_answer, values_of}
use Rattle.receiver.specs.Known.{values_known}
use Rattle.judging.specs.Judge.{numbers_in, judged_for, judged_of, left_by}

-- what arrives, by its parts: data or not, AckOfAcks or not, and the numbers found
unfoldable arrives : Bool → Option (Option ℕ) → Option ℕ → Option ℕ → Option ℕ → Bool → List ℕ → Option Arrival
arrives has a n c v flag block =
    cond has
    (on_some (on_some a λ a. on_some n λ n. on_some c λ c. some (record { number = n; channel = c; aoa = a; block = block })) (λ p. some (content p)))
    (cond flag (on_some v (λ n. some (waiver n))) (some nothing))

arrives_is : (r : Receiver) (v : Values) (block : List ℕ)
    → arrival_from r v block
    ≡ arrives (data_in v.flags) (aoa_number r (aoa_in v.flags) v.aoa) (data_number r v.number) (channel_number r v.channel) (data_number r v.aoa) (aoa_in v.flags) block
unfolding arrives arrival_from packet_from waiver_from
arrives_is r v block = refl

-- a block's bytes do not matter for the judgement
same_judged : (w : ℕ) (r : Receiver) (has : Bool) (a : Option (Option ℕ)) (n c v : Option ℕ) (flag : Bool) (block : List ℕ)
    → judged_for w r (arrives has a n c v flag []) ≡ judged_for w r (arrives has a n c v flag block)
unfolding arrives on_some arrival_answer
same_judged w r true none n c v flag block = refl
same_judged w r true (some a) none c v flag block = refl
same_judged w r true (some a) (some n) none v flag block = refl
same_judged w r true (some a) (some n) (some c) v flag block = refl
same_judged w r false a n c v flag block = refl

-- every answer is 0 or a refusal's number, so what was judged has the answer's number
number_settled : (n : ℕ) (a : Arrived) → is_answer n ≡ true → number_of (settled n a) ≡ n
number_settled n a h = go (eqb n 0) refl
  where
    go : (t : Bool) → eqb n 0 ≡ t → number_of {A = Arrived} (cond t (Ok a) (Err (refusal_of n))) ≡ n
    go true e = sym (eqb-true n 0 e)
    go false e = no_back n h (λ z. clash (eqb n 0) (eq-eqb n 0 z) e)

judged_number : (w : ℕ) (r : Receiver) (o : Option Arrival) → is_answer (answer_for w r o) ≡ true → number_of (judged_for w r o) ≡ answer_for w r o
judged_number w r none h = refl
judged_number w r (some a) h = number_settled (arrival_answer w r a) (numbers_in a) h

pub judged_answer : (w : ℕ) (r : Receiver) (d : List ℕ) (p : WirePacket) → number_of (judged_of w r p.values) ≡ values_answer w r d p
unfolding judged_of values_answer
judged_answer w r d p =
    ap number_of
    (ap (judged_for w r) (arrives_is r p.values [])
    ∙ same_judged w r _ _ _ _ _ _ (body_in d p)
    ∙ ap (judged_for w r) (sym (arrives_is r p.values (body_in d p))))
    ∙ judged_number w r (arrival_from r p.values (body_in d p)) (values_known w r d p)

-- every refusal is 7
abbrev Sevens : List Test → Type 0
Sevens [] = ◌≡◌ {A = ℕ} 0 0
Sevens (t ∷ ts) = (t.no ≡ 7) × Sevens ts

sevens : (ts : List Test) → Sevens ts → (first ts ≡ 0 → ⊥) → first ts ≡ 7
unfolding first
sevens [] h z = absurd (z refl)
sevens (t ∷ ts) h z = go t.holds t.no h.0 (sevens ts h.1) z
  where
    go : (b : Bool) (n : ℕ) → n ≡ 7 → ((first ts ≡ 0 → ⊥) → first ts ≡ 7) → (cond b n (first ts) ≡ 0 → ⊥) → cond b n (first ts) ≡ 7
    go true n e q z = e
    go false n e q z = q z

arrival_seven : (w : ℕ) (r : Receiver) (a : Arrival) → (arrival_answer w r a ≡ 0 → ⊥) → arrival_answer w r a ≡ 7
unfolding arrival_answer numbers_answer
arrival_seven w r nothing z = absurd (z refl)
arrival_seven w r (waiver v) z = sevens (test (ltb highest v) 7 ∷ []) (refl, refl) z
arrival_seven w r (content p) z =
    sevens (number_tests w r.base.0 r.due.0 (waived p.aoa) p.number p.channel) (refl, (refl, (refl, (refl, (refl, refl))))) z

for_seven : (w : ℕ) (r : Receiver) (o : Option Arrival) (x : Refusal) → Err x ≡ judged_for w r o → x ≡ OutOfPlace
for_seven w r none x e = let q : x ≡ OutOfPlace = cc in q
for_seven w r (some a) x e =
    let (z, q) = settled_err x (arrival_answer w r a) (numbers_in a) e in
    q ∙ ap refusal_of (arrival_seven w r a z) ∙ refusal_back OutOfPlace

pub judged_refusal : (w : ℕ) (r : Receiver) (v : Values) (x : Refusal) → Err x ≡ judged_of w r v → x ≡ OutOfPlace
unfolding judged_of
judged_refusal w r v x e = for_seven w r (arrival_from r v []) x e

-- an accepted packet leaves what its numbers leave
content_left : (w : ℕ) (s : State) (a : Option ℕ) (n c : ℕ) (block : List ℕ)
    → left_by w s block (judged_for w s.receiver (some (content (record { number = n; channel = c; aoa = a; block = block }))))
    ≡ packet_of w s (record { number = n; channel = c; aoa = a; block = block })
unfolding arrival_answer packet_of left_by
content_left w s a n c block = go (eqb (packet_answer w s.receiver (record { number = n; channel = c; aoa = a; block = block })) 0)
  where
    p : Packet
    p = record { number = n; channel = c; aoa = a; block = block }

    go : (t : Bool)
        → left_by w s block (cond t (Ok (Content (record { 0 = n }) (record { 0 = c }) (record { 0 = waived a })))
        (Err (refusal_of (packet_answer w s.receiver p))))
        ≡ cond t (record { receiver = receiver_after w s.receiver p; store = store_after w s p }) s
    go true = refl
    go false = refl

waiver_left : (w : ℕ) (s : State) (v : ℕ) (block : List ℕ)
    → left_by w s block (judged_for w s.receiver (some (waiver v))) ≡ arrival_of w s (waiver v)
unfolding arrival_of left_by
waiver_left w s v block = go (eqb (arrival_answer w s.receiver (waiver v)) 0)
  where
    go : (t : Bool) → left_by w s block (cond t (Ok (Waiver (record { 0 = v }))) (Err (refusal_of (arrival_answer w s.receiver (waiver v)))))
        ≡ cond t (record { receiver = waiver_after w s.receiver v; store = s.store }) s
    go true = refl
    go false = refl

arrives_left : (w : ℕ) (s : State) (has : Bool) (a : Option (Option ℕ)) (n c v : Option ℕ) (flag : Bool) (block : List ℕ)
    → left_by w s block (judged_for w s.receiver (arrives has a n c v flag block)) ≡ state_for w s (arrives has a n c v flag block)
unfolding arrives on_some arrival_of arrival_answer left_by
arrives_left w s true none n c v flag block = refl
arrives_left w s true (some a) none c v flag block = refl
arrives_left w s true (some a) (some n) none v flag block = refl
arrives_left w s true (some a) (some n) (some c) v flag block = content_left w s a n c block
arrives_left w s false a n c none true block = refl
arrives_left w s false a n c (some v) true block = waiver_left w s v block
arrives_left w s false a n c v false block = refl

pub judged_leaves : (w : ℕ) (s : State) (d : List ℕ) (p : WirePacket)
    → left_by w s (body_in d p) (judged_of w s.receiver p.values) ≡ values_of w s d p
unfolding judged_of values_of
judged_leaves w s d p =
    ap (left_by w s (body_in d p)) (ap (judged_for w s.receiver) (arrives_is s.receiver p.values []) ∙ same_judged w s.receiver _ _ _ _ _ _ (body_in d p))
    ∙ arrives_left w s _ _ _ _ _ _ (body_in d p)
    ∙ ap (state_for w s) (sym (arrives_is s.receiver p.values (body_in d p)))
