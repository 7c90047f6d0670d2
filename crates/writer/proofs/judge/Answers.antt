-- `writer::judge` meets its contract: each way out is an instance of a law of Judging and Sizes.
use native.Mathlib.Omega.{arith}
use mathlib.Core.Bool.{Bool}
use mathlib.Core.Path.{◌∙◌, ap, sym}
use lib.ListN.{length}
use Rattle.std.proofs.lemmas.Result.{err_from_is_err_and}
use Rattle.common.specs.Answer.{answered_passed}
use Rattle.wire.specs.Layout.{sized}
use Rattle.fitting.proofs.Sizes.{body_long, size_is}
use Rattle.writer.proofs.Judging.{values_fit, judged_values, judged_long, judged_room, judged_fits}
use Rattle.writer.proofs.judge.Goals as goal

pub returns-in_err-judge_values : goal.returns-in_err-judge_values
returns-in_err-judge_values c =
    let p = err_from_is_err_and c.from_residual.result c.from_residual.ensures.1 in
    rw (p.1, p.2) (judged_values _ _ _ _ _ _ c.in_err-judge_values.ensures)

pub returns-then-block-gt-LONGEST_DATAGRAM : goal.returns-then-block-gt-LONGEST_DATAGRAM
returns-then-block-gt-LONGEST_DATAGRAM c = judged_long _ _ _ _ _ (answered_passed _ _ c.in_ok-judge_values.ensures) (body_long _ _ _ _ _ (c.size_if-block.ensures.0 ∙ ap (λ (b : Bool). sized b (length c.args.body.now)) c.flag.ensures) c.if-block-gt-LONGEST_DATAGRAM.true)

pub packet_size-k-requires : goal.packet_size-k-requires
packet_size-k-requires c = let f = values_fit c.args.v (length c.args.additions.now) (length c.args.vector.now) (answered_passed _ _ c.in_ok-judge_values.ensures) in record { additions_value = f.ack; vector_value = f.vector; body_bound = omega (arith, c.size_if-block.ensures.0 ∙ ap (λ (b : Bool). sized b (length c.args.body.now)) c.flag.ensures) }

pub returns-then-n-gt-LONGEST_DATAGRAM : goal.returns-then-n-gt-LONGEST_DATAGRAM
returns-then-n-gt-LONGEST_DATAGRAM c = judged_long _ _ _ _ _ (answered_passed _ _ c.in_ok-judge_values.ensures) (omega (arith, size_is c.args.v c.args.additions.now c.args.vector.now c.args.body.now _ _ c.packet_size-k.ensures.0 c.datagram_size-n.ensures))

pub returns-then-room-n : goal.returns-then-room-n
returns-then-room-n c = judged_room _ _ _ _ _ (answered_passed _ _ c.in_ok-judge_values.ensures) (omega (arith, size_is c.args.v c.args.additions.now c.args.vector.now c.args.body.now _ _ c.packet_size-k.ensures.0 c.datagram_size-n.ensures)) (omega (arith, size_is c.args.v c.args.additions.now c.args.vector.now c.args.body.now _ _ c.packet_size-k.ensures.0 c.datagram_size-n.ensures))

pub returns : goal.returns
returns c = judged_fits _ _ _ _ _ _ c.packet_size-k.ensures.0 (answered_passed _ _ c.in_ok-judge_values.ensures) (omega (arith, size_is c.args.v c.args.additions.now c.args.vector.now c.args.body.now _ _ c.packet_size-k.ensures.0 c.datagram_size-n.ensures)) (omega (arith, size_is c.args.v c.args.additions.now c.args.vector.now c.args.body.now _ _ c.packet_size-k.ensures.0 c.datagram_size-n.ensures))
