-- Writing an acknowledgement, a law for each way out: nothing refuses its values, so that the room decides.
use Rattle.common.specs.declared.Refusal.{Refusal}
use Rattle.std.specs.Prelude.{Err, Result}
use Rattle.common.specs.declared.Refusal.TheVariants.{Nothing, Unsound}
use Prim.Native.Nat.{ℕ, ◌+◌, ◌%◌, ◌^◌, ◌≤◌, ◌<◌}
use mathlib.Core.Bool.{Bool, true, false, cond, not}
use mathlib.Core.List.{List, []}
use mathlib.Core.Path.{◌≡◌, refl, sym, ◌∙◌, ap}
use native.Mathlib.Omega.{arith}
use lib.Dec.{eqb, leb, ltb}
use lib.ListN.{length, take, length-append}
use borrow.Author.Tests.{le-leb, lt-leb, le-ltb, eq-eqb, ne_eqb, ltb-true, ltb-false}
use Rattle.common.specs.Order.{first_here, first_skip}
use Rattle.common.specs.Answer.{no_of, no_zero, written_of, left_of, written_refused, left_refused, room_answer}
use Rattle.vector.specs.Rule.{vector_of}
use Rattle.wire.specs.declared.Values.{Values}
use Rattle.wire.specs.Flags.{ack_in, vector_in, outside, six_of, both}
use Rattle.wire.specs.Frame.{prefix_for}
use Rattle.wire.specs.Layout.{no_ack, no_delay}
use Rattle.wire.specs.Write.{ack_wide, vector_wide, packet_bytes, datagram_of, write_answer}
use Rattle.wire.specs.Round.Framing.{framed_length}
use Rattle.receiver.specs.declared.Receiver.{Receiver}
use Rattle.receiver.specs.Acknowledge.{states_of, all_there, ack_values, vector_values, acknowledgement_of, acknowledge_answer}
use Rattle.receiver.specs.Consistent.{consistent_of}
use Rattle.receiver.specs.Facts.{consistent_facts}
use Rattle.reporting.proofs.Vectors.{Coded}

-- values that pass every test of a write
pub record Plain (v : Values) (a x : ℕ) : Type 0 where
  pub others : outside v.flags ≡ false
  pub acks : both (ack_in v.flags) (vector_in v.flags) ≡ false
  pub window : leb 16 v.logwindow ≡ false
  pub ack : both (ack_in v.flags) (ack_wide v.ack a) ≡ false
  pub vector : both (vector_in v.flags) (vector_wide v.vector x) ≡ false

room_decides : (v : Values) (a x b : List ℕ) (room : ℕ) → Plain v (length a) (length x) → length (datagram_of v a x b) ≤ 1232
    → room_answer (datagram_of v a x b) room ≡ write_answer v a x b room
unfolding write_answer room_answer
room_decides v a x b room f l =
    first_skip _ _ _ (le-ltb 1232 (length (datagram_of v a x b)) l) ∙ first_skip _ _ _ f.vector ∙ first_skip _ _ _ f.ack ∙ first_skip _ _ _ f.window
    ∙ first_skip _ _ _ f.acks ∙ first_skip _ _ _ f.others

-- an answer and a buffer that are what writing the datagram d answers and leaves
abbrev pub Writes : List ℕ → List ℕ → Result ℕ Refusal → List ℕ → Type 0
Writes d out x left = (x ≡ written_of (room_answer d (length out)) d) × (left ≡ left_of (room_answer d (length out)) d out)

-- AN ACK

ack_plain : (r : Receiver) (stamp gap : ℕ) → Plain (ack_values r stamp gap) 0 0
unfolding outside six_of
ack_plain r stamp gap =
    let t : leb (2 ^ 24) (stamp % 2 ^ 24) ≡ false = lt-leb (2 ^ 24) (stamp % 2 ^ 24) (omega arith) in
    record { others = refl; acks = refl; window = refl; ack = rw t refl; vector = refl }

ack_short : (r : Receiver) (stamp gap : ℕ) → length (datagram_of (ack_values r stamp gap) [] [] []) ≤ 1232
unfolding datagram_of packet_bytes
ack_short r stamp gap =
    let p : List ℕ = packet_bytes (ack_values r stamp gap) [] [] [] in
    omega (arith, framed_length (prefix_for p) p)

ack_decides : (r : Receiver) (stamp gap room : ℕ)
    → room_answer (datagram_of (ack_values r stamp gap) [] [] []) room ≡ write_answer (ack_values r stamp gap) [] [] [] room
ack_decides r stamp gap room = room_decides (ack_values r stamp gap) [] [] [] room (ack_plain r stamp gap) (ack_short r stamp gap)

pub ack_written : (r : Receiver) (stamp gap : ℕ) (v : Values) (out : List ℕ) (x : Result ℕ Refusal) (left : List ℕ)
    → x ≡ written_of (write_answer v [] [] [] (length out)) (datagram_of v [] [] [])
    → left ≡ left_of (write_answer v [] [] [] (length out)) (datagram_of v [] [] []) out
    → v ≡ ack_values r stamp gap → Writes (datagram_of (ack_values r stamp gap) [] [] []) out x left
ack_written r stamp gap v out x left e f z = rw (ack_decides r stamp gap (length out), ← z) (e, f)

-- A VECTOR

-- the values of a vector of k bytes
abbrev pub sized_values : Receiver → ℕ → Values
sized_values r k =
    record {
      flags = 0x008;
      logwindow = 5;
      ack = no_ack;
      overhead = 0;
      delay = no_delay;
      aoa = 0;
      number = 0;
      vector = record { base = r.base.0 % 65536; size = k; timed = false; time = 0; gap = 0 };
      channel = 0;
    }

module _ (r : Receiver) (b : List ℕ) (l : length b < 128) where
  vector_plain : Plain (sized_values r (length b)) 0 (length b)
  unfolding outside six_of
  vector_plain =
      let s : leb 128 (length b) ≡ false = lt-leb 128 (length b) l in
      let t : eqb (length b) (length b) ≡ true = eq-eqb (length b) (length b) refl in
      record { others = refl; acks = refl; window = refl; ack = refl; vector = rw (s, t) refl }

  packet_length : length (packet_bytes (sized_values r (length b)) [] b []) ≡ 5 + length b
  unfolding packet_bytes
  packet_length = simp length-append (omega arith)

  packet_short : length (datagram_of (sized_values r (length b)) [] b []) ≤ 1232
  unfolding datagram_of
  packet_short =
      let p : List ℕ = packet_bytes (sized_values r (length b)) [] b [] in
      omega (arith, framed_length (prefix_for p) p, packet_length)

  vector_decides : (room : ℕ) → room_answer (datagram_of (sized_values r (length b)) [] b []) room ≡ write_answer (sized_values r (length b)) [] b [] room
  vector_decides room = room_decides (sized_values r (length b)) [] b [] room vector_plain packet_short

pub vector_written : (w : ℕ) (r : Receiver) (coded : List ℕ) (k : ℕ) (v : Values) (out : List ℕ) (x : Result ℕ Refusal) (left : List ℕ) → Coded w r coded k → k < 128
    → x ≡ written_of (write_answer v [] (take k coded) [] (length out)) (datagram_of v [] (take k coded) [])
    → left ≡ left_of (write_answer v [] (take k coded) [] (length out)) (datagram_of v [] (take k coded) []) out
    → v ≡ sized_values r k → Writes (datagram_of (vector_values w r) [] (vector_of (states_of w r)) []) out x left
vector_written w r coded k v out x left y l e f z =
    let d = vector_decides r (vector_of (states_of w r)) (omega (arith, y.size)) (length out) in
    let s : v ≡ vector_values w r = z ∙ ap (sized_values r) y.size in
    rw (d, ← s, ← y.same) (e, f)

-- THE WHOLE CALL

abbrev pub Acknowledges : ℕ → ℕ → Receiver → ℕ → ℕ → List ℕ → Result ℕ Refusal → List ℕ → Type 0
Acknowledges w cap r stamp gap out x left =
    (x ≡ written_of (acknowledge_answer w cap r stamp gap (length out)) (acknowledgement_of w r stamp gap))
    × (left ≡ left_of (acknowledge_answer w cap r stamp gap (length out)) (acknowledgement_of w r stamp gap) out)

module _ (w cap : ℕ) (r : Receiver) (stamp gap : ℕ) (out : List ℕ) (b : Bool) (consistent : b ≡ consistent_of w cap r) where
  refused : (x : Refusal) → no_of x ≡ acknowledge_answer w cap r stamp gap (length out) → Acknowledges w cap r stamp gap out (Err x) out
  refused x e = (written_refused x _ (acknowledgement_of w r stamp gap) e, left_refused (no_of x) _ (acknowledgement_of w r stamp gap) out e (no_zero x))

  pub acknowledge_unsound : b ≡ false → Acknowledges w cap r stamp gap out (Err Unsound) out
  unfolding acknowledge_answer
  acknowledge_unsound h = refused Unsound (first_here _ _ _ (ap not (sym consistent ∙ h)))

  module _ (h : b ≡ true) where
    pub acknowledge_nothing : r.end.0 ≤ r.base.0 → r.base.0 ≡ r.firstdata.0 → Acknowledges w cap r stamp gap out (Err Nothing) out
    unfolding acknowledge_answer
    acknowledge_nothing l e =
        let t : cond (all_there r) (eqb r.base.0 r.firstdata.0) false ≡ true =
        rw (le-leb r.end.0 r.base.0 l) (eq-eqb r.base.0 r.firstdata.0 e) in
        refused Nothing (first_here _ _ _ t ∙ first_skip _ _ _ (ap not (sym consistent ∙ h)))

    -- what is written is the acknowledgement d
    answered : (d : List ℕ) (x : Result ℕ Refusal) (left : List ℕ) → acknowledgement_of w r stamp gap ≡ d
        → cond (all_there r) (eqb r.base.0 r.firstdata.0) false ≡ false → Writes d out x left → Acknowledges w cap r stamp gap out x left
    unfolding acknowledge_answer room_answer
    answered d x left e t y =
        let a : room_answer (acknowledgement_of w r stamp gap) (length out) ≡ acknowledge_answer w cap r stamp gap (length out) =
        first_skip _ _ _ t ∙ first_skip _ _ _ (ap not (sym consistent ∙ h)) in (
          y.0 ∙ ap (λ (o : List ℕ). written_of (room_answer o (length out)) o) (sym e) ∙ ap (λ (n : ℕ). written_of n (acknowledgement_of w r stamp gap)) a,
          y.1 ∙ ap (λ (o : List ℕ). left_of (room_answer o (length out)) o out) (sym e) ∙ ap (λ (n : ℕ). left_of n (acknowledgement_of w r stamp gap) out) a,
        )

    pub acknowledge_all : (x : Result ℕ Refusal) (left : List ℕ) → r.end.0 ≤ r.base.0 → (r.base.0 ≡ r.firstdata.0 → ⊥)
        → Writes (datagram_of (ack_values r stamp gap) [] [] []) out x left → Acknowledges w cap r stamp gap out x left
    unfolding acknowledgement_of
    acknowledge_all x left l n y =
        let t = le-leb r.end.0 r.base.0 l in
        answered (datagram_of (ack_values r stamp gap) [] [] []) x left (rw t refl) (rw t (ne_eqb r.base.0 r.firstdata.0 n)) y

    pub acknowledge_vector : (x : Result ℕ Refusal) (left : List ℕ) → r.base.0 < r.end.0
        → Writes (datagram_of (vector_values w r) [] (vector_of (states_of w r)) []) out x left → Acknowledges w cap r stamp gap out x left
    unfolding acknowledgement_of
    acknowledge_vector x left l y =
        let t = lt-leb r.end.0 r.base.0 l in
        answered (datagram_of (vector_values w r) [] (vector_of (states_of w r)) []) x left (rw t refl) (rw t refl) y

-- base past the first is not 0
pub past_first : (w : ℕ) (r : Receiver) → consistent_of w w r ≡ true → (r.base.0 ≡ r.firstdata.0 → ⊥) → 1 ≤ r.base.0
past_first w r h n = let l = (consistent_facts w w r h).base_from in go (ltb 0 r.base.0) refl l
  where
    go : (t : Bool) → ltb 0 r.base.0 ≡ t → r.firstdata.0 ≤ r.base.0 → 1 ≤ r.base.0
    go true e l = ltb-true 0 r.base.0 e
    go false e l = let k = ltb-false 0 r.base.0 e in absurd (n (omega arith))
