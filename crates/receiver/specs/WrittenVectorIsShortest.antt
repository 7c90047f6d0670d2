-- Where "write acknowledgement" writes a vector, no vector that names the same numbers is shorter: a consistent record's range ends at a marked number.
use Rattle.std.specs.Prelude.{ℕ, ◌+◌, ◌-◌, ◌≤◌, ◌<◌, true, false, List, [], ◌≡◌, length, get_or, take, Ok}
use Rattle.std.proofs.Common.{◌∙◌, ap, arith, leb-false}
use Rattle.std.proofs.lemmas.Bool.{not-false}
use Rattle.common.specs.Answer.{written_of, left_of}
use Rattle.common.specs.Order.{first_pass}
use Rattle.vector.specs.Says.{Shortest}
use Rattle.vector.specs.Rule.{vector_of}
use Rattle.vector.proofs.NoVectorIsShorter.{no_vector_is_shorter}
use Rattle.wire.specs.Same.{coded_in, Says}
use Rattle.wire.specs.Round.Accepted.{wrote}
use Rattle.receiver.specs.declared.Receiver.{Receiver}
use Rattle.receiver.specs.Record.{is_marked, mark_at}
use Rattle.receiver.specs.Acknowledge.{states_of, all_there, vector_values, acknowledgement_of, acknowledge_answer}
use Rattle.receiver.specs.Facts.{Facts, consistent_facts}
use Rattle.receiver.specs.AcknowledgeLaws.{states_length, state_at_lem}
use Rattle.receiver.specs.AcknowledgementReadsBack.{Vectored, says_vectored, vector_reads_back}

-- the last state of the range is that of end − 1
range_ends_received : (w cap : ℕ) (r : Receiver) → Facts w cap r → r.base.0 < r.end.0
    → get_or (states_of w r) (length (states_of w r) - 1) false ≡ true
unfolding states_of
range_ends_received w cap r k l =
    let n = r.end.0 - r.base.0 in
    let e : r.base.0 + (n - 1) ≡ r.end.0 - 1 = omega arith in
    ap (λ (m : ℕ). get_or (states_of w r) (m - 1) false) (states_length w r r.base.0 n)
    ∙ state_at_lem w r r.base.0 n (n - 1) (omega arith)
    ∙ ap (λ (m : ℕ). is_marked (mark_at w r m)) e
    ∙ k.end_marked l

-- bytes read as one packet alone, so the vector in it is the rule's
coded_shortest : (w : ℕ) (r : Receiver) (bytes : List ℕ) → Shortest (vector_of (states_of w r)) → Says (vector_values w r) [] (vector_of (states_of w r)) [] bytes
    → (v : Vectored w r bytes) → Shortest (coded_in bytes v.packet)
coded_shortest w r bytes s k v =
    let read = v.reads in
    let same = k.reads in
    let e : v.packet ≡ k.packet = cc in
    rw (e, k.vector_same) s

-- THE THEOREM. Of the call, where it is answered by k bytes written and end lies above base: the first k of the output, whatever was lent, read as the
-- vector of the received numbers from base up to end, and from whatever base no vector that names the same numbers as this one has fewer bytes.
pub written_vector_is_shortest : (w cap : ℕ) (r : Receiver) (stamp gap : ℕ) (out : List ℕ) (k : ℕ) → w ≤ 880 → all_there r ≡ false
    → written_of (acknowledge_answer w cap r stamp gap (length out)) (acknowledgement_of w r stamp gap) ≡ Ok k
    → (v : Vectored w r (take k (left_of (acknowledge_answer w cap r stamp gap (length out)) (acknowledgement_of w r stamp gap) out)))
    × Shortest (coded_in (take k (left_of (acknowledge_answer w cap r stamp gap (length out)) (acknowledgement_of w r stamp gap) out)) v.packet)
unfolding acknowledge_answer
written_vector_is_shortest w cap r stamp gap out k u t e =
    let (accepted, same) = wrote _ _ out k e in
    let f = consistent_facts w cap r (not-false _ (first_pass _ _ _ (omega arith) accepted).0) in
    let says = vector_reads_back w r stamp gap t f.end_near u in
    let v = says_vectored w r (acknowledgement_of w r stamp gap) says in
    let s = no_vector_is_shorter (states_of w r) (range_ends_received w cap r f (leb-false _ _ t)) in
    rw same (v, coded_shortest w r (acknowledgement_of w r stamp gap) s says v)
