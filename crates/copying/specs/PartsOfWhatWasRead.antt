-- Of a datagram that was read as a packet, a host gets the additions, the vector bytes and the block by copying, and exactly these: a copy is
-- refused only where the output is too short for it. A part that is not there is empty and stands at place 0; copying it writes nothing.
use Rattle.std.specs.Prelude.{ℕ, ◌+◌, ◌-◌, ◌≤◌, Bool, true, false, cond, List, [], ◌∷◌, ◌++◌, ◌≡◌, length, drop, ltb, Ok, Some}
use Rattle.std.proofs.Common.{sym, ◌∙◌, ap, subst, arith, le-ltb}
use Rattle.common.specs.Answer.{written_of, left_of, room_answer}
use Rattle.common.specs.Order.{test, first, first_none, first_skip}
use Rattle.common.specs.Put.{put_front}
use Rattle.wire.specs.declared.Packet.{Packet}
use Rattle.wire.specs.declared.Values.{Values}
use Rattle.wire.specs.Frame.{swapped, end_of}
use Rattle.wire.specs.Flags.{ack_in, data_in, vector_in}
use Rattle.wire.specs.Layout.{flags_of, sized, ack_at, ack_size, stamp_size, timed_at, vector_at, vector_size, no_ack, no_vector, ack_end, overhead_end, delay_end, aoa_end, number_end, vector_end, channel_end, values_of, packet_of, part_of}
use Rattle.wire.specs.Read.{read_of}
use Rattle.wire.specs.Write.{given}
use Rattle.wire.specs.Same.{additions_in, coded_in, body_in, Says}
use Rattle.wire.specs.Round.Found.{Found, found, read_found}
use Rattle.wire.specs.Round.Framing.{swapped_length, part_length}
use Rattle.wire.specs.Round.Tests.{neither_of}
use Rattle.copying.specs.Copy.{copy_answer}

-- the n bytes from a place on are had as this part
pub record Had (d : List ℕ) (from n : ℕ) (part : List ℕ) : Type 0 where
  pub long : length part ≡ n
  pub answer : (room : ℕ) → copy_answer d from n room ≡ room_answer part room
  pub wrote : (out : List ℕ) → n ≤ length out → written_of (copy_answer d from n (length out)) (part_of d from n) ≡ Ok n
  pub front : (out : List ℕ) → n ≤ length out → left_of (copy_answer d from n (length out)) (part_of d from n) out ≡ part ++ drop n out

-- a packet's additions, vector bytes and block are had as these
pub record Parts (d : List ℕ) (p : Packet) (additions vector body : List ℕ) : Type 0 where
  pub additions_had : Had d p.additions p.values.ack.count additions
  pub vector_had : Had d p.vector p.values.vector.size vector
  pub body_had : Had d p.body p.bytes body

-- a part that ends no later than the packet does
had : (d : List ℕ) (from n : ℕ) → Found d → from + n ≤ end_of (swapped d) → Had d from n (part_of d from n)
unfolding copy_answer room_answer written_of left_of
had d from n facts h =
    let l : length (part_of d from n) ≡ n = part_length d from n (omega (arith, swapped_length d, facts.inside.ends)) in
    let low : ltb (length d) 8 ≡ false = le-ltb (length d) 8 facts.long in
    let high : ltb 1232 (length d) ≡ false = le-ltb 1232 (length d) facts.short in
    let inside : ltb (end_of (swapped d)) (from + n) ≡ false = le-ltb (end_of (swapped d)) (from + n) h in
    let a : (room : ℕ) → room_answer (part_of d from n) room ≡ copy_answer d from n room =
    λ room. ap (λ (k : ℕ). first (test (ltb room k) 14 ∷ [])) l ∙ first_skip _ _ _ inside ∙ first_skip _ _ _ (neither_of _ _ low high) in
    let zero : (room : ℕ) → n ≤ room → copy_answer d from n room ≡ 0 =
    λ room fits. sym (first_none ∙ first_skip _ _ _ (le-ltb room n fits) ∙ first_skip _ _ _ inside ∙ first_skip _ _ _ (neither_of _ _ low high)) in
    record {
      long = l;
      answer = λ room. sym (a room);
      wrote = λ out fits. rw (zero (length out) fits) (ap Ok l);
      front = λ out fits. rw (zero (length out) fits) (put_front out (part_of d from n) ∙ ap (λ (k : ℕ). part_of d from n ++ drop k out) l);
    }

-- the parts of the packet that stands in a datagram end no later than it does
ack_within : (p : List ℕ) (end : ℕ) (flag : Bool) → 3 + sized flag (ack_size p 3) ≤ end → sized flag 10 + (cond flag (ack_at p 3) no_ack).count ≤ end
ack_within p end true h = omega arith
ack_within p end false h = omega arith

vector_within : (p : List ℕ) (at end : ℕ) (flag : Bool) → at + sized flag (vector_size p at) ≤ end
    → sized flag (at + 3 + stamp_size (timed_at p at)) + (cond flag (vector_at p at) no_vector).size ≤ end
vector_within p at end true h = omega arith
vector_within p at end false h = omega arith

body_within : (at end : ℕ) (flag : Bool) → at ≤ end → sized flag at + sized flag (end - at) ≤ end
body_within at end true h = omega arith
body_within at end false h = omega arith

found_parts : (d : List ℕ) → Found d → Parts d (found d) (additions_in d (found d)) (coded_in d (found d)) (body_in d (found d))
unfolding packet_of values_of ack_end overhead_end delay_end aoa_end number_end vector_end channel_end
found_parts d facts =
    let p : List ℕ = swapped d in
    let f : ℕ = flags_of p in
    let whole : channel_end p f ≤ end_of p = facts.inside.payloads in
    record {
      additions_had = had d _ _ facts (ack_within p (end_of p) (ack_in f) (omega arith));
      vector_had = had d _ _ facts (vector_within p (number_end p f) (end_of p) (vector_in f) (omega arith));
      body_had = had d _ _ facts (body_within (channel_end p f) (end_of p) (data_in f) whole);
    }

pub parts_of_what_was_read : (d : List ℕ) (p : Packet) → read_of d ≡ Ok (Some p) → Parts d p (additions_in d p) (coded_in d p) (body_in d p)
parts_of_what_was_read d p e =
    let (facts, same) = read_found d p e in
    subst (λ (q : Packet). Parts d q (additions_in d q) (coded_in d q) (body_in d q)) same (found_parts d facts)

-- Of a datagram that says what was written (wire/specs/WrittenReadsBack), they are the bytes that were given to be written.
pub parts_of_what_was_written : (v : Values) (additions vector body d : List ℕ) → (s : Says v additions vector body d)
    → Parts d s.packet (given (ack_in v.flags) additions) (given (vector_in v.flags) vector) (given (data_in v.flags) body)
parts_of_what_was_written v additions vector body d s =
    rw (← s.additions_same, ← s.vector_same, ← s.body_same) (parts_of_what_was_read d s.packet s.reads)
