-- `receiver::acknowledge` meets its contract: each way out is an instance of a law of Acknowledging.
use mathlib.Core.Path.{sym, ◌∙◌}
use Rattle.reporting.proofs.Acknowledging.{acknowledge_unsound, acknowledge_nothing, acknowledge_all, acknowledge_vector, past_first}
use Rattle.reporting.proofs.acknowledge.Goals as goal

pub returns-then-not-consistent : goal.returns-then-not-consistent
returns-then-not-consistent c = let both = acknowledge_unsound 32 32 c.args.r c.args.stamp c.args.gap c.args.out.now _ c.consistent.ensures c.if-not-consistent.true in record { answer = both.0; bytes = both.1 }

pub returns-then-base-r : goal.returns-then-base-r
returns-then-base-r c = let both = acknowledge_nothing 32 32 c.args.r c.args.stamp c.args.gap c.args.out.now _ c.consistent.ensures c.if-not-consistent.false c.if-r-base.true c.if-base-r.true in record { answer = both.0; bytes = both.1 }

pub write_ack-requires : goal.write_ack-requires
write_ack-requires c = past_first 32 c.args.r (sym c.consistent.ensures ∙ c.if-not-consistent.false) c.if-base-r.false

pub returns-then-r-base : goal.returns-then-r-base
returns-then-r-base c = let both = acknowledge_all 32 32 c.args.r c.args.stamp c.args.gap c.args.out.now _ c.consistent.ensures c.if-not-consistent.false _ _ c.if-r-base.true c.if-base-r.false (c.write_ack.ensures.answer, c.write_ack.ensures.bytes) in record { answer = both.0; bytes = both.1 }

pub write_vector-requires : goal.write_vector-requires
write_vector-requires c = record { r_value = sym c.consistent.ensures ∙ c.if-not-consistent.false; base_lt_end = c.if-r-base.false }

pub returns : goal.returns
returns c = let both = acknowledge_vector 32 32 c.args.r c.args.stamp c.args.gap c.args.out.now _ c.consistent.ensures c.if-not-consistent.false _ _ c.if-r-base.false (c.write_vector.ensures.answer, c.write_vector.ensures.bytes) in record { answer = both.0; bytes = both.1 }
