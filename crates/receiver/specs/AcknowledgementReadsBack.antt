-- What "write acknowledgement" writes reads back as that acknowledgement: the ACK with its values, or the vector, which names exactly the received
-- numbers from base up to end. Last the same of the call: of the bytes that an accepted one reports, as they stand in the lent output.
use Rattle.std.specs.Prelude.{ℕ, ◌+◌, ◌-◌, ◌%◌, ◌≤◌, ◌<◌, Bool, true, false, cond, List, [], ◌⊎◌, ◌≡◌, refl, length, take, leb, ltb, Ok, Some}
use Rattle.std.proofs.Common.{inl, inr, ⊎_elim, sym, ◌∙◌, ap, arith, le-ltb, lt-ltb}
use Rattle.std.proofs.lemmas.Bool.{lt-leb, not-false}
use Rattle.common.specs.Answer.{written_of, left_of}
use Rattle.common.specs.Facts.{lt_or_ge, bool}
use Rattle.common.specs.Order.{first_pass}
use Rattle.numbers.specs.declared.Widened.TheVariants.{At}
use Rattle.numbers.specs.Widen.{widen_of}
use Rattle.numbers.specs.Nearest.{widen_only}
use Rattle.vector.specs.Says.{names}
use Rattle.vector.specs.Rule.{vector_of}
use Rattle.vector.specs.ReadsBack.{names_exactly}
use Rattle.wire.specs.declared.Packet.{Packet}
use Rattle.wire.specs.declared.Values.{Values}
use Rattle.wire.specs.Read.{read_of}
use Rattle.wire.specs.Write.{datagram_of}
use Rattle.wire.specs.Same.{coded_in, kept_of, Says}
use Rattle.wire.specs.Round.Accepted.{wrote}
use Rattle.wire.specs.WrittenReadsBack.{written_reads_back}
use Rattle.receiver.specs.declared.Receiver.{Receiver}
use Rattle.receiver.specs.Record.{is_marked, mark_at}
use Rattle.receiver.specs.Acknowledge.{states_of, all_there, ack_values, vector_values, acknowledgement_of, acknowledge_answer}
use Rattle.receiver.specs.Facts.{consistent_facts}
use Rattle.receiver.specs.AcknowledgeLaws.{state_at_lem, state_past, ack_accepted, vector_accepted}

-- Where all is there, the ACK for base − 1, with the caller's stamp and gap.
pub ack_reads_back : (w : ℕ) (r : Receiver) (stamp gap : ℕ) → all_there r ≡ true
    → Says (ack_values r stamp gap) [] [] [] (acknowledgement_of w r stamp gap)
unfolding acknowledgement_of
ack_reads_back w r stamp gap t = rw t (written_reads_back (ack_values r stamp gap) [] [] [] 10 (ack_accepted r stamp gap))

-- Otherwise the vector from base on. A consistent record's end is at most base + w; a window of up to 880 fits one vector.
pub vector_reads_back : (w : ℕ) (r : Receiver) (stamp gap : ℕ) → all_there r ≡ false → r.end.0 ≤ r.base.0 + w → w ≤ 880
    → Says (vector_values w r) [] (vector_of (states_of w r)) [] (acknowledgement_of w r stamp gap)
unfolding acknowledgement_of
vector_reads_back w r stamp gap t h u =
    rw t
    (written_reads_back (vector_values w r) [] (vector_of (states_of w r)) [] (length (datagram_of (vector_values w r) [] (vector_of (states_of w r)) []))
    (vector_accepted w r h u))

-- It names a number exactly if that lies from base up to end and is received.
pub vector_names : (w : ℕ) (r : Receiver) (n : ℕ)
    → names (vector_of (states_of w r)) r.base.0 n ≡ cond (leb r.base.0 n) (cond (ltb n r.end.0) (is_marked (mark_at w r n)) false) false
unfolding states_of
vector_names w r n =
    names_exactly (states_of w r) r.base.0 n
    ∙ ⊎_elim
    (λ (lt : n < r.base.0). rw (lt-leb r.base.0 n lt) refl)
    (λ (ge : r.base.0 ≤ n). ap (λ (b : Bool). cond (leb r.base.0 n) b false)
    (⊎_elim
    (λ (lt : n < r.end.0).
    let e : r.base.0 + (n - r.base.0) ≡ n = omega arith in
    state_at_lem w r r.base.0 (r.end.0 - r.base.0) (n - r.base.0) (omega arith) ∙ ap (λ (m : ℕ). is_marked (mark_at w r m)) e
    ∙ sym (ap (λ (b : Bool). cond b (is_marked (mark_at w r n)) false) (lt-ltb n r.end.0 lt)))
    (λ (past : r.end.0 ≤ n).
    state_past w r r.base.0 (r.end.0 - r.base.0) (n - r.base.0) (omega arith)
    ∙ sym (ap (λ (b : Bool). cond b (is_marked (mark_at w r n)) false) (le-ltb n r.end.0 past)))
    (lt_or_ge n r.end.0)))
    (lt_or_ge n r.base.0)

-- So with every acknowledgement that the call accepts to write.
pub acknowledgement_reads_back : (w cap : ℕ) (r : Receiver) (stamp gap room : ℕ) → w ≤ 880 → acknowledge_answer w cap r stamp gap room ≡ 0
    → ((all_there r ≡ true) × Says (ack_values r stamp gap) [] [] [] (acknowledgement_of w r stamp gap))
    ⊎ ((all_there r ≡ false) × Says (vector_values w r) [] (vector_of (states_of w r)) [] (acknowledgement_of w r stamp gap))
unfolding acknowledge_answer
acknowledgement_reads_back w cap r stamp gap room u h =
    let consistent = not-false _ (first_pass _ _ _ (omega arith) (sym h)).0 in
    ⊎_elim
    (λ t. inl (t, ack_reads_back w r stamp gap t))
    (λ t. inr (t, vector_reads_back w r stamp gap t (consistent_facts w cap r consistent).end_near u))
    (bool (all_there r))

-- some bytes read as a vector and nothing else, whose field is base's; from base on it names a number exactly if that lies from base up to end and is
-- received; and every reference that base is near to widens the field to base
pub record Vectored (w : ℕ) (r : Receiver) (bytes : List ℕ) : Type 0 where
  pub packet : Packet
  pub reads : read_of bytes ≡ Ok (Some packet)
  pub values : packet.values ≡ kept_of (vector_values w r)
  pub named : (n : ℕ)
      → names (coded_in bytes packet) r.base.0 n ≡ cond (leb r.base.0 n) (cond (ltb n r.end.0) (is_marked (mark_at w r n)) false) false
  pub widens : (reference : ℕ) → reference ≤ r.base.0 + 32767 → r.base.0 ≤ reference + 32767
      → widen_of reference packet.values.vector.base ≡ At r.base.0

pub says_vectored : (w : ℕ) (r : Receiver) (bytes : List ℕ) → Says (vector_values w r) [] (vector_of (states_of w r)) [] bytes → Vectored w r bytes
says_vectored w r bytes k =
    record {
      packet = k.packet;
      reads = k.reads;
      values = k.values;
      named = λ n. ap (λ (v : List ℕ). names v r.base.0 n) k.vector_same ∙ vector_names w r n;
      widens = λ reference l u.
          ap (λ (v : Values). widen_of reference v.vector.base) k.values
          ∙ widen_only reference (r.base.0 % 65536) (At r.base.0) (omega arith) (l, u, refl);
    }

-- Of the call. Where it is answered by k bytes written, the first k of the output, whatever was lent, read as the ACK, or as the vector.
pub acknowledge_then_read : (w cap : ℕ) (r : Receiver) (stamp gap : ℕ) (out : List ℕ) (k : ℕ) → w ≤ 880
    → written_of (acknowledge_answer w cap r stamp gap (length out)) (acknowledgement_of w r stamp gap) ≡ Ok k
    → ((all_there r ≡ true)
    × Says (ack_values r stamp gap) [] [] []
    (take k (left_of (acknowledge_answer w cap r stamp gap (length out)) (acknowledgement_of w r stamp gap) out)))
    ⊎ ((all_there r ≡ false)
    × Vectored w r (take k (left_of (acknowledge_answer w cap r stamp gap (length out)) (acknowledgement_of w r stamp gap) out)))
acknowledge_then_read w cap r stamp gap out k u e =
    let (accepted, same) = wrote _ _ out k e in
    rw same
    (⊎_elim
    (λ t. inl t)
    (λ t. inr (t.0, says_vectored w r (acknowledgement_of w r stamp gap) t.1))
    (acknowledgement_reads_back w cap r stamp gap (length out) u (sym accepted)))
