-- Two histories, computed, of which EveryBlockAccounted speaks: a block that is lost five times and acknowledged at its sixth send; and one that is lost six times, with
-- another waiting behind it, so that the next resend is refused with 22. The window is 4, which makes them cheap to compute; `sender_runs` runs the like at 32.
use Rattle.std.specs.Prelude.{ℕ, true, false, List, [], ◌∷◌, ◌++◌, ◌≡◌, refl, length, replicate}
use Rattle.std.proofs.Common.{arith}
use Rattle.std.proofs.lemmas.List.{length-replicate}
use Rattle.common.specs.Every.{every, all_below, count_below, implies}
use Rattle.common.specs.Order.{first}
use Rattle.common.specs.Put.{put_of}
use Rattle.numbers.specs.Age.{age_of}
use Rattle.numbers.specs.Widen.{widen_of}
use Rattle.window.specs.Window.{slid}
use Rattle.window.specs.Store.{store_size, sound_with}
use Rattle.wire.specs.Frame.{swapped, dropped_by, end_of, framed, prefix_for, padded}
use Rattle.wire.specs.Flags.{six_of, outside}
use Rattle.wire.specs.Layout.{ack_end, overhead_end, delay_end, aoa_end, number_end, vector_end, channel_end, values_of, packet_of, part_of}
use Rattle.wire.specs.Read.{read_packet, read_of}
use Rattle.wire.specs.Write.{packet_bytes, datagram_of}
use Rattle.receiver.specs.Consistent as receiver_tests
use Rattle.receiver.specs.Packet as arriving
use Rattle.receiver.specs.Receive as receiver
use Rattle.sender.specs.declared.Sender.{Sender}
use Rattle.sender.specs.Record.{block_at, contents}
use Rattle.sender.specs.Consistent.{range_fits, timeout_fits, zero_number, zero_block, number_fits, carries, one_carrier, block_fits, number_ok, block_ok, spare_number, spare_block, consistent_of}
use Rattle.sender.specs.Turn.{turn_one, turn_up_to, numbers_moved, blocks_moved, turned_of}
use Rattle.sender.specs.Acknowledge.{acknowledged_of, told_answer, told_names, told_of, told_by}
use Rattle.sender.specs.Send.{data_bytes, limit_of, at_limit_of, new_answer, new_datagram, new_of, waiting_from, lowest_waiting, lowest_spent, resend_datagram, resend_answer, resend_of}
use Rattle.sender.specs.Sweep.{above, higher_received, loses_at, sweep_answer, sweep_of}
use Rattle.sender.specs.Tells.{tells}
use Rattle.sender.specs.States.{has_in_flight, has_waiting}
use Rattle.endpoint.specs.Receive as both
use Rattle.endpoint.specs.Open.{open_answer, opened_of}
use Rattle.endpoint.specs.Calls.{Endpoint, Call, receives, sends, resends, sweeps, answer_of, call_of, calls_of}
use Rattle.endpoint.specs.Fresh.{endpoint_of}
use Rattle.endpoint.specs.Accounts.{Entry, entries_of, added_by, history_of, count_in, any_in, new_in, sends_in, resends_in, pending_in, acknowledged_in, Accounted}
use Rattle.endpoint.specs.EveryBlockAccounted.{every_block_accounted}

-- a window of 4, opened at 0 and 0 with a timeout of 300 ms
abbrev pub outset : Endpoint
outset = endpoint_of (opened_of 4 0 0 300) (replicate (store_size 4) 0) (replicate (store_size 4) 0)

-- an ACK for number n, below 256
abbrev pub ack_for : ℕ → List ℕ
ack_for n = 0x00 ∷ 0x01 ∷ 0x50 ∷ n ∷ 0x00 ∷ 0x00 ∷ 0x00 ∷ 0x00 ∷ 0x00 ∷ 0x00 ∷ []

-- what calls make
abbrev pub sender_after : List Call → Sender
sender_after cs = (calls_of 4 4 outset cs).halves.sender

abbrev pub history_after : List Call → List Entry
history_after cs = history_of 4 4 [] outset cs

-- The theorem speaks of all of them.
pub accounted : (cs : List Call) → Accounted 4 0 0 (history_after cs) (sender_after cs)
unfolding open_answer first
accounted cs =
    every_block_accounted 4 4 (omega arith) (omega arith) 0 0 300 (replicate (store_size 4) 0) (replicate (store_size 4) 0) refl
    (length-replicate {A = ℕ} (store_size 4) 0) (length-replicate {A = ℕ} (store_size 4) 0) cs

-- Block 0 goes out as number 0 and is lost five times, so that its sixth send has number 5. A resend without room is refused with 14, and one while it is in flight
-- with 11. An ACK for number 4 names its first five transmissions, and all of these are lost.
abbrev pub lasting : List Call
lasting =
    sends 0 (0x61 ∷ []) 1232
    ∷ sweeps 300
    ∷ resends 300 1232
    ∷ sweeps 600
    ∷ resends 600 1232
    ∷ sweeps 900
    ∷ resends 900 9
    ∷ resends 900 1232
    ∷ sweeps 1200
    ∷ resends 1200 1232
    ∷ sweeps 1500
    ∷ resends 1500 1232
    ∷ resends 1500 1232
    ∷ receives (ack_for 4)
    ∷ []

-- and then an ACK for number 5
abbrev pub lasted : List Call
lasted = lasting ++ (receives (ack_for 5) ∷ [])

-- 12 of the 14 calls were accepted, and the ACK for 5 is the 13th.
pub sixth_send : (length (history_after lasting) ≡ 12) × (new_in (history_after lasting) ≡ 1)
    × (sends_in (history_after lasting) 0 ≡ 6) × (resends_in (history_after lasting) 0 ≡ 5) × ((block_at 4 (sender_after lasting) 0).sends ≡ 6)
    × (acknowledged_in (history_after lasting) 0 ≡ false) × (has_in_flight 4 (sender_after lasting) 0 ≡ true) × (has_waiting 4 (sender_after lasting) 0 ≡ false)
    × (pending_in (history_after lasting) 4 ≡ false) × (pending_in (history_after lasting) 5 ≡ true)
    × (length (history_after lasted) ≡ 13) × (acknowledged_in (history_after lasted) 0 ≡ true) × (sends_in (history_after lasted) 0 ≡ 6)
    × (has_in_flight 4 (sender_after lasted) 0 ≡ false) × (pending_in (history_after lasted) 5 ≡ false) × ((sender_after lasted).channellow.0 ≡ 1)
unfolding consistent_of range_fits timeout_fits every all_below count_below implies zero_number zero_block number_fits carries one_carrier block_fits number_ok block_ok spare_number
    spare_block sound_with first swapped end_of dropped_by six_of outside ack_end overhead_end delay_end aoa_end number_end vector_end channel_end values_of packet_of part_of read_packet
    read_of widen_of told_by told_answer told_names told_of acknowledged_of turn_one turn_up_to numbers_moved blocks_moved turned_of slid
    framed prefix_for padded packet_bytes datagram_of put_of age_of contents data_bytes limit_of at_limit_of new_answer new_datagram new_of waiting_from lowest_waiting lowest_spent
    resend_datagram resend_answer resend_of above higher_received loses_at sweep_answer sweep_of tells
    receiver_tests.bounds_fit receiver_tests.mark_fits receiver_tests.hold_fits receiver_tests.mark_ok receiver_tests.hold_ok receiver_tests.spare_mark receiver_tests.spare_hold
    receiver_tests.consistent_of arriving.numbers_answer arriving.arrival_answer arriving.arrival_of arriving.packet_of receiver.waiver_from receiver.arrival_from
    receiver.values_answer receiver.values_of both.sound_of both.packet_answer both.packet_of both.read_answer both.read_into both.receive_answer both.receive_of
    answer_of call_of calls_of open_answer opened_of entries_of added_by history_of count_in any_in pending_in acknowledged_in
sixth_send = (refl, refl, refl, refl, refl, refl, refl, refl, refl, refl, refl, refl, refl, refl, refl, refl)

-- Blocks 0 and 1 go out and are lost; block 0 is sent again and lost five times more.
abbrev pub dying : List Call
dying =
    sends 0 (0x61 ∷ []) 1232
    ∷ sends 0 (0x62 ∷ []) 1232
    ∷ sweeps 300
    ∷ resends 300 1232
    ∷ sweeps 600
    ∷ resends 600 1232
    ∷ sweeps 900
    ∷ resends 900 1232
    ∷ sweeps 1200
    ∷ resends 1200 1232
    ∷ sweeps 1500
    ∷ resends 1500 1232
    ∷ sweeps 1800
    ∷ []

-- and a seventh send is asked for
abbrev pub dead : List Call
dead = dying ++ (resends 1800 1232 ∷ [])

-- It is refused with 22 and changes nothing; both blocks wait, the second having been sent once.
pub given_up : (answer_of 4 4 (calls_of 4 4 outset dying) (resends 1800 1232) ≡ 22)
    × (sender_after dead ≡ sender_after dying) × (length (history_after dying) ≡ 13) × (length (history_after dead) ≡ 13) × (new_in (history_after dead) ≡ 2)
    × (sends_in (history_after dead) 0 ≡ 6) × ((block_at 4 (sender_after dead) 0).sends ≡ 6) × (has_waiting 4 (sender_after dead) 0 ≡ true)
    × (sends_in (history_after dead) 1 ≡ 1) × ((block_at 4 (sender_after dead) 1).sends ≡ 1) × (has_waiting 4 (sender_after dead) 1 ≡ true)
    × (acknowledged_in (history_after dead) 0 ≡ false) × (acknowledged_in (history_after dead) 1 ≡ false)
unfolding consistent_of range_fits timeout_fits every all_below count_below implies zero_number zero_block number_fits carries one_carrier block_fits number_ok block_ok spare_number
    spare_block sound_with first swapped framed prefix_for padded packet_bytes datagram_of put_of age_of contents data_bytes limit_of at_limit_of new_answer new_datagram new_of waiting_from
    lowest_waiting lowest_spent resend_datagram resend_answer resend_of turn_one turn_up_to numbers_moved blocks_moved turned_of slid above higher_received loses_at sweep_answer sweep_of
    answer_of call_of calls_of open_answer opened_of entries_of added_by history_of count_in any_in pending_in acknowledged_in
given_up = (refl, refl, refl, refl, refl, refl, refl, refl, refl, refl, refl, refl, refl)
