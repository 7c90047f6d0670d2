-- Outsets of which the theorems speak: a fresh sender is consistent, and so is one that has sent a block; an acknowledgement of its number is accepted and moves low on.
use Rattle.std.specs.Prelude.{ℕ, true, List, [], ◌∷◌, ◌≡◌, refl}
use Rattle.common.specs.Every.{every, all_below, count_below, implies}
use Rattle.common.specs.Order.{first}
use Rattle.numbers.specs.Widen.{widen_of}
use Rattle.window.specs.Window.{slid}
use Rattle.wire.specs.Frame.{swapped, dropped_by, end_of}
use Rattle.wire.specs.Flags.{six_of, outside}
use Rattle.wire.specs.Layout.{ack_end, overhead_end, delay_end, aoa_end, number_end, vector_end, channel_end, values_of, packet_of, part_of}
use Rattle.wire.specs.Read.{read_packet, read_of}
use Rattle.sender.specs.Fresh.{fresh_of}
use Rattle.sender.specs.declared.Sender.{Sender}
use Rattle.sender.specs.Record.{is_pending, number_at}
use Rattle.sender.specs.Consistent.{range_fits, timeout_fits, zero_number, zero_block, number_fits, carries, one_carrier, block_fits, number_ok, block_ok, spare_number, spare_block, consistent_of}
use Rattle.sender.specs.Turn.{turn_one, turn_up_to, numbers_moved, blocks_moved, turned_of}
use Rattle.sender.specs.Acknowledge.{acknowledged_of, told_answer, told_names, told_of, told_by, read_answer, read_into, acknowledge_answer, acknowledge_of}
use Rattle.sender.specs.Acknowledge as told
use Rattle.sender.specs.Send.{sent_of}
use Rattle.sender.specs.Run.{run}

abbrev pub fresh : Sender
fresh = fresh_of 32 0 0 300

pub fresh_consistent : consistent_of 32 32 fresh ≡ true
unfolding consistent_of range_fits timeout_fits every all_below count_below implies zero_number zero_block number_fits carries one_carrier block_fits number_ok block_ok spare_number spare_block
fresh_consistent = refl

-- block 0 of five bytes has gone out at tick 7 under number 0
abbrev pub one_out : Sender
one_out = sent_of 32 fresh 7 0 5 1 1

pub one_consistent : (consistent_of 32 32 one_out ≡ true) × (is_pending (number_at 32 one_out 0) ≡ true)
unfolding consistent_of range_fits timeout_fits every all_below count_below implies zero_number zero_block number_fits carries one_carrier block_fits number_ok block_ok spare_number spare_block
one_consistent = (refl, refl)

-- An ACK for number 0, in a datagram of ten bytes, is accepted twice over: both lows then stand at 1, past what was sent.
abbrev pub one_ack : List ℕ
one_ack = 0x00 ∷ 0x01 ∷ 0x50 ∷ 0x00 ∷ 0x00 ∷ 0x00 ∷ 0x00 ∷ 0x00 ∷ 0x00 ∷ 0x00 ∷ []

pub one_acknowledged : (acknowledge_answer 32 32 one_out one_ack ≡ 0) × ((run 32 32 one_out (one_ack ∷ one_ack ∷ [])).low.0 ≡ 1)
    × ((run 32 32 one_out (one_ack ∷ one_ack ∷ [])).channellow.0 ≡ 1)
unfolding consistent_of range_fits timeout_fits every all_below count_below implies zero_number zero_block number_fits carries one_carrier block_fits number_ok block_ok spare_number
    spare_block first swapped end_of dropped_by six_of outside ack_end overhead_end delay_end aoa_end number_end vector_end channel_end values_of packet_of part_of read_packet
    read_of widen_of told_by told_answer told_names told_of told.packet_of acknowledged_of read_answer read_into acknowledge_answer acknowledge_of turn_one turn_up_to numbers_moved blocks_moved turned_of slid run
one_acknowledged = (refl, refl, refl)
