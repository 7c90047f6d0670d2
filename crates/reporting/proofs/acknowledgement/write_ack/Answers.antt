-- `receiver::acknowledgement::write_ack` meets its contract: each way out is an instance of a law of Acknowledging.
use borrow.Author.Rules.{rules}
use Rattle.reporting.proofs.Acknowledging.{ack_written}
use Rattle.reporting.proofs.acknowledgement.write_ack.Goals as goal

pub returns : goal.returns
returns c =
    let both = ack_written c.args.r c.args.stamp c.args.gap _ c.args.out.now _ _ c.write.ensures.answer c.write.ensures.bytes (search rules) in
    record { answer = both.0; bytes = both.1 }
