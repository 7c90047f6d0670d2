-- How datagrams are shown to be a set of demand 3 by computing: each reads as the packet that stands in it, and brings one that fits. CanBeMet and the endpoint's examples use it.
use Rattle.std.specs.Prelude.{ℕ, zero, suc, ◌≤◌, ◌<◌, Bool, true, List, [], ◌∷◌, ◌≡◌, ltb, length, Ok, Some}
use Rattle.std.proofs.Math.Option.{some}
use Rattle.std.proofs.Common.{sym, ◌∙◌, ap, subst, arith, ltb-true}
use Rattle.common.specs.Every.{every}
use Rattle.common.specs.EveryLaws.{AllTrue, every_all}
use Rattle.window.specs.Members.{In}
use Rattle.wire.specs.Flags.{data_in}
use Rattle.wire.specs.Read.{read_of}
use Rattle.wire.specs.Same.{body_in, Bytes}
use Rattle.wire.specs.Round.Found.{found}
use Rattle.receiver.specs.declared.Receiver.{Receiver}
use Rattle.receiver.specs.Record.{State, contents}
use Rattle.receiver.specs.Consistent.{sound_of}
use Rattle.receiver.specs.Packet.{Packet}
use Rattle.receiver.specs.Receive.{packet_from}
use Rattle.receiver.specs.Determined.{held_in}
use Rattle.receiver.specs.Set.{Readable, Fits, Set, packet_at}
use Rattle.receiver.specs.Order.Again.{packet_at_lem}

-- a list of bytes, by a test
abbrev pub small : List ℕ → List Bool
small [] = []
small (b ∷ bs) = ltb b 256 ∷ small bs

pub are_bytes_lem : (d : List ℕ) → AllTrue (small d) → Bytes d
are_bytes_lem [] h i = omega arith
are_bytes_lem (b ∷ bs) h zero = ltb-true b 256 h.0
are_bytes_lem (b ∷ bs) h (suc i) = are_bytes_lem bs h.1 i

-- the datagram reads, carries DATA, and its numbers, widened against the record, are the packet's
abbrev pub Brings : Receiver → List ℕ → Packet → Type 0
Brings r d p =
    (every (small d) ≡ true) × (read_of d ≡ Ok (Some (found d))) × (data_in (found d).values.flags ≡ true)
    × (packet_from r (found d).values (body_in d (found d)) ≡ some p)

-- the packet fits; its block is the one of its channel number, and agrees with the block that is held there, if one is
pub record Shown (w : ℕ) (s : State) (body : ℕ → List ℕ) (d : List ℕ) : Type 0 where
  pub packet : Packet
  pub brings : Brings s.receiver d packet
  pub fits : Fits w s.receiver packet
  pub block : packet.block ≡ body packet.channel
  pub held : held_in w s.receiver packet.channel ≡ true → packet.block ≡ contents w s packet.channel

module _ {w : ℕ} {s : State} {body : ℕ → List ℕ} where
  readable : {d : List ℕ} → Shown w s body d → Readable s.receiver d
  readable {d} k =
      let (bytes, reads, carries, widens) = k.brings in
      record { bytes = are_bytes_lem d (every_all (small d) bytes); taken = found d; reads = reads; carries = carries; packet = k.packet; widens = widens }

  pub packet_is : {d : List ℕ} (k : Shown w s body d) → packet_at s.receiver d ≡ k.packet
  unfolding readable
  packet_is {d} k = packet_at_lem s.receiver d (readable k)

  block_is : {d : List ℕ} → Shown w s body d → (packet_at s.receiver d).block ≡ body (packet_at s.receiver d).channel
  block_is {d} k = subst (λ (p : Packet). p.block ≡ body p.channel) (sym (packet_is k)) k.block

  pub shown_set : (cap : ℕ) (ds : List (List ℕ)) → 0 < w → w ≤ 1024 → w ≤ cap → sound_of w cap s.receiver (length s.store) ≡ true
      → ((d : List ℕ) → In d ds → Shown w s body d) → Set w cap s ds
  shown_set cap ds lw small uw sound shown =
      record {
        some = lw;
        small = small;
        fits = uw;
        outset = sound;
        readable = λ d i. readable (shown d i);
        bounds = λ d i. subst (λ (p : Packet). Fits w s.receiver p) (sym (packet_is (shown d i))) (shown d i).fits;
        agree = λ d e i j q. block_is (shown d i) ∙ ap body q ∙ sym (block_is (shown e j));
        with_held = λ d i t.
            subst (λ (p : Packet). held_in w s.receiver p.channel ≡ true → p.block ≡ contents w s p.channel) (sym (packet_is (shown d i)))
            (shown d i).held t;
      }
