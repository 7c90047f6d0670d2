-- `fitting::packet_size` meets its contract: each way out is an instance of a law of Sizes.
use native.Mathlib.Omega.{arith}
use mathlib.Core.Bool.{Bool}
use mathlib.Core.Path.{◌∙◌, ap}
use lib.ListN.{length}
use Rattle.wire.specs.Flags.{both}
use Rattle.wire.specs.Layout.{sized}
use Rattle.wire.specs.Write.{ack_wide, vector_wide}
use Rattle.fitting.proofs.Sizes.{packet_sum, ack_few, vector_few}
use Rattle.fitting.proofs.packet_size.Goals as goal

pub size_with-ack-requires : goal.size_with-ack-requires
size_with-ack-requires c = (omega arith, ack_few c.flag.result c.args.v.ack _ (ap (λ (b : Bool). both b (ack_wide c.args.v.ack (length c.args.additions.now))) c.flag.ensures ∙ c.requires.additions_value))

pub size_with-list-requires : goal.size_with-list-requires
size_with-list-requires c = (omega (arith, c.size_if-stamp.ensures.1), vector_few c.flag-5.result c.args.v.vector _ (ap (λ (b : Bool). both b (vector_wide c.args.v.vector (length c.args.vector.now))) c.flag-5.ensures ∙ c.requires.vector_value))

pub size_with-block-requires : goal.size_with-block-requires
size_with-block-requires c = (omega arith, omega (arith, ap (λ (b : Bool). sized b (length c.args.body.now)) c.flag-content.ensures, c.requires.body_bound))

pub returns : goal.returns
returns c = (
  packet_sum _ _ _ _ _ _ _ _ _ _ _ _ _ _ _ _ _ _ c.flag.ensures c.flag-2.ensures c.flag-3.ensures c.flag-4.ensures c.flag-content.ensures c.flag-5.ensures c.size_if-stamp.ensures.0
      c.size_with-ack.ensures.0 c.size_if-overhead.ensures.0 c.size_if-delay.ensures.0 c.size_if-aoa.ensures.0 c.size_if-number.ensures.0 c.size_with-list.ensures.0 c.size_with-block.ensures.0,
  omega arith,
)
