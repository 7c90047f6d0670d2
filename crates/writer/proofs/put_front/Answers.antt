-- `writer::put_front` meets its contract: each way out is an instance of a law of Given and Widths.
use native.Mathlib.Omega.{arith}
use mathlib.Core.Path.{◌∙◌, ap}
use mathlib.Core.Bool.{Bool}
use mathlib.Core.List.{[], ◌∷◌}
use lib.ListN.{length}
use Rattle.common.specs.Laid.{laid_as, lays, done, next}
use Rattle.wire.specs.Flags.{both}
use Rattle.wire.specs.Write.{word_bytes, ack_bytes, ack_wide, delay_bytes}
use Rattle.laying.specs.Halves.{front_bytes}
use Rattle.laying.proofs.Given.{laid_flag, given_length}
use Rattle.laying.proofs.Widths.{front_length}
use Rattle.writer.proofs.put_front.Goals as goal

pub put_word-at1-requires : goal.put_word-at1-requires
put_word-at1-requires c = omega (arith, c.requires.additions_in_bounds, front_length c.args.v c.args.additions.now)

pub put_ack-at2-requires : goal.put_ack-at2-requires
put_ack-at2-requires c = record { additions_in_bounds = omega (arith, c.requires.additions_in_bounds, front_length c.args.v c.args.additions.now, given_length _ _ (ack_bytes c.args.v.ack c.args.additions.now) c.flag-isack.ensures); additions_value = ap (λ (b : Bool). both b (ack_wide c.args.v.ack (length c.args.additions.now))) c.flag-isack.ensures ∙ c.requires.additions_value }

pub put_byte_if-at3-requires : goal.put_byte_if-at3-requires
put_byte_if-at3-requires c = omega (arith, c.requires.additions_in_bounds, front_length c.args.v c.args.additions.now, given_length _ _ (ack_bytes c.args.v.ack c.args.additions.now) c.flag-isack.ensures, given_length _ _ (c.args.v.overhead ∷ []) c.flag-isoverhead.ensures)

pub put_delay-at4-requires : goal.put_delay-at4-requires
put_delay-at4-requires c = omega (arith, c.requires.additions_in_bounds, front_length c.args.v c.args.additions.now, given_length _ _ (ack_bytes c.args.v.ack c.args.additions.now) c.flag-isack.ensures, given_length _ _ (c.args.v.overhead ∷ []) c.flag-isoverhead.ensures, given_length _ _ (delay_bytes c.args.v.delay) c.flag-isdelay.ensures)

pub put_word_if-requires : goal.put_word_if-requires
put_word_if-requires c = omega (arith, c.requires.additions_in_bounds, front_length c.args.v c.args.additions.now, given_length _ _ (ack_bytes c.args.v.ack c.args.additions.now) c.flag-isack.ensures, given_length _ _ (c.args.v.overhead ∷ []) c.flag-isoverhead.ensures, given_length _ _ (delay_bytes c.args.v.delay) c.flag-isdelay.ensures, given_length _ _ (word_bytes c.args.v.aoa) c.flag-isaoa.ensures)

pub returns : goal.returns
unfolding front_bytes
returns c = lays
    (next (laid_as (ap word_bytes c.header_of.ensures) c.put_word-at1.ensures)
    (next (laid_flag _ _ _ c.flag-isack.ensures c.put_ack-at2.ensures)
    (next (laid_flag _ _ _ c.flag-isoverhead.ensures c.put_byte_if-at3.ensures)
    (next (laid_flag _ _ _ c.flag-isdelay.ensures c.put_delay-at4.ensures)
    (next (laid_flag _ _ _ c.flag-isaoa.ensures c.put_word_if.ensures) done)))))
    c.requires.additions_in_bounds
