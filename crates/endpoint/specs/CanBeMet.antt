-- The premises of the endpoint's theorems can be met. A fresh endpoint is an outset for three datagrams of data, here in one history with a repeat and takes
-- between; and one that has sent a block is an outset for an acknowledgement that is accepted and names it.
use Rattle.std.specs.Prelude.{ℕ, true, List, [], ◌∷◌, ◌++◌, ◌≡◌, refl, replicate, Ok, Some}
use mathlib.Core.List.Memᴰ
use Rattle.std.proofs.Common.{inl, inr, sym, ◌∙◌, ap, subst, arith}
use Rattle.std.proofs.lemmas.List.{length-replicate}
use Rattle.common.specs.Every.{every}
use Rattle.common.specs.Order.{first}
use Rattle.numbers.specs.Widen.{widen_of}
use Rattle.window.specs.Store.{place_size, store_size}
use Rattle.window.specs.Free.{free}
use Rattle.window.specs.Members.{In, among}
use Rattle.wire.specs.declared.Packet.{Packet}
use Rattle.wire.specs.Flags.{outside, six_of}
use Rattle.wire.specs.Frame.{swapped, dropped_by, end_of}
use Rattle.wire.specs.Layout.{ack_end, overhead_end, delay_end, aoa_end, number_end, vector_end, channel_end, values_of, packet_of, part_of}
use Rattle.wire.specs.Read.{read_as, read_of, read_packet}
use Rattle.wire.specs.Round.Found.{found}
use Rattle.receiver.specs.CanBeMet.{fresh, five, waiving, late, three, three_are_a_set}
use Rattle.receiver.specs.AnyOrder.{ready_of}
use Rattle.receiver.specs.Receive.{on_some, data_number, channel_number, if_flagged, packet_from}
use Rattle.receiver.specs.Determined.{inside, held_in, has_by, due_by, block_in, body_by, blocks_from}
use Rattle.receiver.specs.History.{Event, arrives, takes, datagrams_of, takes_of}
use Rattle.receiver.specs.Set.{packet_at, From, Covers}
use Rattle.sender.specs.Acknowledge.{told_names, told_by}
use Rattle.sender.specs.Remembering.{Sized}
use Rattle.sender.specs.Run.{has_received}
use Rattle.sender.specs.Outset.{fresh_consistent, one_out, one_consistent, one_ack, one_acknowledged}
use Rattle.endpoint.specs.Open.{open_answer}
use Rattle.endpoint.specs.Receive.{sound_of, receive_answer}
use Rattle.endpoint.specs.Calls.{Endpoint, receives, calls_of}
use Rattle.endpoint.specs.Sound.{Sound}
use Rattle.endpoint.specs.Fresh.{fresh_of}
use Rattle.endpoint.specs.History.{OnlyData, OnlyAck, after, handed, nothing, tells}
use Rattle.endpoint.specs.Steps.{paired, halves_sound, ack_answer}
use Rattle.endpoint.specs.StaysSound.{fresh_sound}
use Rattle.endpoint.specs.AnyOrderOfData.{all_accepted, any_order_taken}
use Rattle.endpoint.specs.AnyOrderOfAcknowledgements.{NamedBy, received_if}

-- opened at 0 and 0 with a timeout of 300 ms
abbrev pub outset : Endpoint
outset = fresh_of 32 0 0 300 fresh.store (replicate (store_size 32) 0)

pub outset_sound : Sound 32 32 outset
unfolding open_answer first
outset_sound =
    fresh_sound 32 32 (omega arith) (omega arith) 0 0 300 fresh.store (replicate (store_size 32) 0) refl (length-replicate {A = ℕ} (store_size 32) 0)
    (length-replicate {A = ℕ} (store_size 32) 0)

read_once : (p q : Packet) → read_as p ≡ read_as q → p ≡ q
read_once p q e = cc

-- the flags of a datagram that reads as found
pub flags_of : (d : List ℕ) (n : ℕ) → read_of d ≡ Ok (Some (found d)) → (found d).values.flags ≡ n → (p : Packet) → read_of d ≡ Ok (Some p) → p.values.flags ≡ n
flags_of d n r f p q = ap (λ (x : Packet). x.values.flags) (read_once p (found d) (sym q ∙ r)) ∙ f

-- the LogWindowSize of one
pub size_of : (d : List ℕ) (n : ℕ) → read_of d ≡ Ok (Some (found d)) → (found d).values.logwindow ≡ n → Sized n d
size_of d n r f p q = ap (λ (x : Packet). x.values.logwindow) (read_once p (found d) (sym q ∙ r)) ∙ f

-- what holds of three holds of each of their list
pub each_of : (P : List ℕ → Type 0) (a b c : List ℕ) → P a → P b → P c → (d : List ℕ) → In d (a ∷ b ∷ c ∷ []) → P d
each_of P a b c x y z d (Memᴰ.head e) = subst P (sym e) x
each_of P a b c x y z d (Memᴰ.tail (Memᴰ.head e)) = subst P (sym e) y
each_of P a b c x y z d (Memᴰ.tail (Memᴰ.tail (Memᴰ.tail x13))) = elim x13 [ ]
each_of P a b c x y z d (Memᴰ.tail (Memᴰ.tail (Memᴰ.head e))) = subst P (sym e) z

abbrev pub Reads : List ℕ → ℕ → Type 0
Reads d n = (read_of d ≡ Ok (Some (found d))) × ((found d).values.flags ≡ n)

all_read : Reads five 4 × Reads waiving 20 × Reads late 20 × Reads one_ack 1
unfolding every read_of read_packet first swapped dropped_by end_of outside six_of ack_end overhead_end delay_end aoa_end number_end vector_end channel_end values_of packet_of part_of
all_read = ((refl, refl), (refl, refl), (refl, refl), (refl, refl))

pub three_carry_data : (d : List ℕ) → In d three → OnlyData d
three_carry_data =
    each_of OnlyData five waiving late
    (λ p q. inl (flags_of five 4 all_read.0.0 all_read.0.1 p q))
    (λ p q. inr (flags_of waiving 20 all_read.1.0 all_read.1.1 p q))
    (λ p q. inr (flags_of late 20 all_read.2.0 all_read.2.1 p q))

-- So at every moment of a history of the three, each of them is accepted.
pub three_accepted : (es : List Event) → From three es → (d : List ℕ) → In d three → receive_answer 32 32 (after 32 32 outset es).halves d ≡ 0
three_accepted es from d i = all_accepted 32 32 outset three three_are_a_set fresh_consistent three_carry_data es from d i

-- one history of the three: out of order, one of them twice, with takes between
abbrev pub history : List Event
history = arrives late ∷ takes place_size ∷ arrives five ∷ arrives late ∷ takes 0 ∷ arrives waiving ∷ []

pub history_from : From three history
unfolding datagrams_of
history_from d (Memᴰ.head e) = Memᴰ.tail (Memᴰ.tail (Memᴰ.head e))
history_from d (Memᴰ.tail (Memᴰ.head e)) = Memᴰ.head e
history_from d (Memᴰ.tail (Memᴰ.tail (Memᴰ.tail (Memᴰ.tail x16)))) = elim x16 [ ]
history_from d (Memᴰ.tail (Memᴰ.tail (Memᴰ.head e))) = Memᴰ.tail (Memᴰ.tail (Memᴰ.head e))
history_from d (Memᴰ.tail (Memᴰ.tail (Memᴰ.tail (Memᴰ.head e)))) = Memᴰ.tail (Memᴰ.head e)

pub history_covers : Covers three history
unfolding datagrams_of
history_covers d (Memᴰ.tail (Memᴰ.tail (Memᴰ.tail x12))) = elim x12 [ ]
history_covers d (Memᴰ.head e) = Memᴰ.tail (Memᴰ.head e)
history_covers d (Memᴰ.tail (Memᴰ.head e)) = Memᴰ.tail (Memᴰ.tail (Memᴰ.tail (Memᴰ.head e)))
history_covers d (Memᴰ.tail (Memᴰ.tail (Memᴰ.head e))) = Memᴰ.head e

-- The run that is ready has blocks 0 and 1, both empty, and not block 3, since nothing brought block 2.
ready_two : ready_of 32 fresh three ≡ [] ∷ [] ∷ []
unfolding every read_of read_packet first swapped dropped_by end_of outside six_of ack_end overhead_end delay_end aoa_end number_end vector_end channel_end
    values_of packet_of part_of packet_from
    on_some data_number channel_number if_flagged widen_of packet_at has_by held_in inside due_by free among body_by block_in blocks_from
ready_two = refl

pub two_handed : handed 32 32 outset (history ++ takes_of 32) ≡ [] ∷ [] ∷ []
two_handed =
    (any_order_taken 32 32 outset three three_are_a_set fresh_consistent three_carry_data history history_from history_covers).1 ∙ ready_two

-- the sender's half has sent a block under number 0
abbrev pub sent_one : Endpoint
sent_one = record { halves = paired one_out fresh; sent = outset.sent }

pub one_sound : sound_of 32 32 sent_one.halves ≡ true
one_sound = halves_sound 32 32 sent_one.halves one_consistent.0 outset_sound.receiver

pub one_carries_ack : OnlyAck one_ack
one_carries_ack p q = inl (flags_of one_ack 1 all_read.3.0 all_read.3.1 p q)

one_names : told_names (told_by one_out one_ack (found one_ack)) 0 ≡ true
unfolding every read_of read_packet first swapped dropped_by end_of outside six_of ack_end overhead_end delay_end aoa_end number_end vector_end channel_end
    values_of packet_of part_of told_names told_by widen_of
one_names = refl

pub one_named : NamedBy 32 32 sent_one.halves (one_ack ∷ []) 0
one_named =
    record {
      datagram = one_ack;
      listed = Memᴰ.head refl;
      packet = found one_ack;
      reads = all_read.3.0;
      accepted = ack_answer 32 32 sent_one.halves one_ack one_carries_ack outset_sound.receiver ∙ one_acknowledged.0;
      names = one_names;
    }

-- So the number, pending at the outset, is received at the end.
pub one_received : has_received 32 (calls_of 32 32 sent_one (receives one_ack ∷ [])).halves.sender 0 ≡ true
one_received =
    received_if 32 32 (omega arith) (omega arith) sent_one one_sound (receives one_ack ∷ []) (one_ack ∷ []) [] (tells one_ack one_carries_ack nothing) 0
    (omega arith) (omega arith) one_consistent.1 one_named
