-- `carrying::put_data` meets its contract: each way out is an instance of a law.
use Rattle.std.proofs.Common.{length}
use Rattle.sender.specs.Send.{data_bytes}
use Rattle.sender.specs.DataReadsBack.{data_answer_lem}
use Rattle.carrying.proofs.put_data.Goals as goal

pub returns : goal.returns
unfolding data_bytes
returns c =
    rw (← data_answer_lem c.args.low.0 c.args.next.0 c.args.channel.0 c.args.block.now (length c.args.out.now) c.requires, ← c.data_values.ensures)
    (record { answer = c.write.ensures.answer; bytes = c.write.ensures.bytes })
