-- Laws of the acknowledgement that is written: its states, its length, and that nothing but the room can refuse it.
use Rattle.std.specs.Prelude.{ℕ, zero, suc, ◌+◌, ◌-◌, ◌%◌, ◌^◌, ◌≤◌, ◌<◌, false, [], ◌++◌, ◌≡◌, refl, length, get_or, leb}
use Rattle.std.proofs.Common.{sym, ◌∙◌, ap, add-zero, arith, length-append, le-ltb, eq-eqb}
use Rattle.std.proofs.lemmas.Bool.{lt-leb}
use Rattle.common.specs.Order.{first}
use Rattle.vector.specs.Rule.{vector_of}
use Rattle.vector.specs.Laws.{vector_sevenths}
use Rattle.wire.specs.Frame.{prefix_for}
use Rattle.wire.specs.Flags.{six_of, outside}
use Rattle.wire.specs.Write.{packet_bytes, datagram_of, write_answer}
use Rattle.wire.specs.Round.Framing.{framed_length}
use Rattle.receiver.specs.declared.Receiver.{Receiver}
use Rattle.receiver.specs.Record.{is_marked, mark_at}
use Rattle.receiver.specs.Acknowledge.{states_from, states_of, ack_values, vector_values}

pub states_length : (w : ℕ) (r : Receiver) (n k : ℕ) → length (states_from w r n k) ≡ k
unfolding states_from
states_length w r n zero = refl
states_length w r n (suc k) = ap suc (states_length w r (n + 1) k)

pub state_at_lem : (w : ℕ) (r : Receiver) (n k i : ℕ) → i < k → get_or (states_from w r n k) i false ≡ is_marked (mark_at w r (n + i))
unfolding states_from
state_at_lem w r n zero i h = absurd (omega arith)
state_at_lem w r n (suc k) zero h = ap (λ (m : ℕ). is_marked (mark_at w r m)) (sym (add-zero n))
state_at_lem w r n (suc k) (suc i) h =
    let e : n + 1 + i ≡ n + suc i = omega arith in state_at_lem w r (n + 1) k i (omega arith) ∙ ap (λ (m : ℕ). is_marked (mark_at w r m)) e

pub state_past : (w : ℕ) (r : Receiver) (n k i : ℕ) → k ≤ i → get_or (states_from w r n k) i false ≡ false
unfolding states_from
state_past w r n zero i h = refl
state_past w r n (suc k) zero h = absurd (omega arith)
state_past w r n (suc k) (suc i) h = state_past w r (n + 1) k i (omega arith)

ack_length : (r : Receiver) (stamp gap : ℕ) → length (datagram_of (ack_values r stamp gap) [] [] []) ≡ 10
unfolding datagram_of packet_bytes
ack_length r stamp gap =
    framed_length (prefix_for (packet_bytes (ack_values r stamp gap) [] [] [])) (packet_bytes (ack_values r stamp gap) [] [] []) ∙ omega arith

pub ack_accepted : (r : Receiver) (stamp gap : ℕ) → 0 ≡ write_answer (ack_values r stamp gap) [] [] [] 10
unfolding write_answer first outside six_of
ack_accepted r stamp gap =
    let l = ack_length r stamp gap in
    let t : leb (2 ^ 24) (stamp % 2 ^ 24) ≡ false = lt-leb (2 ^ 24) (stamp % 2 ^ 24) (omega arith) in
    rw (t, l) refl

vector_length : (w : ℕ) (r : Receiver) → length (datagram_of (vector_values w r) [] (vector_of (states_of w r)) []) ≤ 8 + length (vector_of (states_of w r))
unfolding datagram_of packet_bytes
vector_length w r =
    let l = length-append (vector_of (states_of w r)) [] in
    let m = length-append (vector_of (states_of w r) ++ []) [] in
    let f = framed_length (prefix_for (packet_bytes (vector_values w r) [] (vector_of (states_of w r)) [])) (packet_bytes (vector_values w r) [] (vector_of (states_of w r)) []) in
    omega arith

pub vector_accepted : (w : ℕ) (r : Receiver) → r.end.0 ≤ r.base.0 + w → w ≤ 880
    → 0 ≡ write_answer (vector_values w r) [] (vector_of (states_of w r)) [] (length (datagram_of (vector_values w r) [] (vector_of (states_of w r)) []))
unfolding write_answer first outside six_of states_of
vector_accepted w r h u =
    let k = states_length w r r.base.0 (r.end.0 - r.base.0) in
    let v = vector_sevenths (states_of w r) in
    let l = vector_length w r in
    let n : length (vector_of (states_of w r)) < 128 = omega arith in
    let a = lt-leb 128 (length (vector_of (states_of w r))) n in
    let b = eq-eqb (length (vector_of (states_of w r))) (length (vector_of (states_of w r))) refl in
    let c = le-ltb 1232 (length (datagram_of (vector_values w r) [] (vector_of (states_of w r)) [])) (omega arith) in
    let d = le-ltb (length (datagram_of (vector_values w r) [] (vector_of (states_of w r)) [])) (length (datagram_of (vector_values w r) [] (vector_of (states_of w r)) [])) (omega arith) in
    rw (a, b, c, d) refl
