-- Demand 2: what is read, dummies aside, and written again reads the same.
use Rattle.std.specs.Prelude.{ℕ, ◌≤◌, List, ◌≡◌, length, Ok, Some}
use Rattle.std.proofs.Common.{subst}
use Rattle.wire.specs.declared.Packet.{Packet}
use Rattle.wire.specs.Layout.{values_of, packet_of, part_of}
use Rattle.wire.specs.Read.{read_of}
use Rattle.wire.specs.Write.{datagram_of, write_answer}
use Rattle.wire.specs.Same.{additions_in, coded_in, body_in, Bytes}
use Rattle.wire.specs.Round.Found.{read_found}
use Rattle.wire.specs.Round.Rewritten.{not_longer, accepted_again, reads_again, bytes_again}

-- the datagram that is written of what was read
abbrev pub again : List ℕ → Packet → List ℕ
again d p = datagram_of p.values (additions_in d p) (coded_in d p) (body_in d p)

-- it is accepted wherever the room suffices, never longer than what was read, and reads the same: the same packet, and the same bytes where it points
pub record Again (d : List ℕ) (p : Packet) : Type 0 where
  pub shorter : length (again d p) ≤ length d
  pub accepted : (room : ℕ) → length (again d p) ≤ room → 0 ≡ write_answer p.values (additions_in d p) (coded_in d p) (body_in d p) room
  pub reads : read_of (again d p) ≡ Ok (Some p)
  pub additions_same : additions_in (again d p) p ≡ additions_in d p
  pub vector_same : coded_in (again d p) p ≡ coded_in d p
  pub body_same : body_in (again d p) p ≡ body_in d p

pub read_written_reads_the_same : (d : List ℕ) (p : Packet) → Bytes d → read_of d ≡ Ok (Some p) → Again d p
unfolding values_of packet_of part_of
read_written_reads_the_same d p small e =
    let (facts, same) = read_found d p e in
    subst (λ (q : Packet). Again d q) same
    (record {
      shorter = not_longer d small facts;
      accepted = accepted_again d small facts;
      reads = reads_again d small facts;
      additions_same = (bytes_again d small facts).0;
      vector_same = (bytes_again d small facts).1;
      body_same = (bytes_again d small facts).2;
    })
