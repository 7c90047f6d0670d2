-- `writer::put_back` meets its contract: each way out is an instance of a law of Given and Widths.
use native.Mathlib.Omega.{arith}
use mathlib.Core.Path.{◌∙◌, ap}
use mathlib.Core.Bool.{Bool}
use mathlib.Core.List.{◌++◌}
use lib.ListN.{length}
use Rattle.common.specs.Laid.{lays, done, next}
use Rattle.wire.specs.Flags.{both}
use Rattle.wire.specs.Write.{word_bytes, vector_bytes, vector_wide}
use Rattle.laying.specs.Halves.{back_bytes}
use Rattle.laying.proofs.Given.{laid_flag, given_length}
use Rattle.laying.proofs.Widths.{back_length}
use Rattle.writer.proofs.put_back.Goals as goal

pub put_word_if-at1-requires : goal.put_word_if-at1-requires
put_word_if-at1-requires c = omega (arith, c.requires.body_in_bounds, back_length c.args.v c.args.vector.now c.args.body.now, given_length _ _ (word_bytes c.args.v.number) c.flag-content.ensures)

pub put_vector-at2-requires : goal.put_vector-at2-requires
put_vector-at2-requires c = record { coded_in_bounds = omega (arith, c.requires.body_in_bounds, back_length c.args.v c.args.vector.now c.args.body.now, given_length _ _ (word_bytes c.args.v.number) c.flag-content.ensures, given_length _ _ (vector_bytes c.args.v.vector c.args.vector.now) c.flag-isvector.ensures); coded_value = ap (λ (b : Bool). both b (vector_wide c.args.v.vector (length c.args.vector.now))) c.flag-isvector.ensures ∙ c.requires.vector_value }

pub put_body-requires : goal.put_body-requires
put_body-requires c = omega (arith, c.requires.body_in_bounds, back_length c.args.v c.args.vector.now c.args.body.now, given_length _ _ (word_bytes c.args.v.number) c.flag-content.ensures, given_length _ _ (vector_bytes c.args.v.vector c.args.vector.now) c.flag-isvector.ensures, given_length _ _ (word_bytes c.args.v.channel ++ c.args.body.now) c.flag-content.ensures)

pub returns : goal.returns
unfolding back_bytes
returns c = lays
    (next (laid_flag _ _ _ c.flag-content.ensures c.put_word_if-at1.ensures)
    (next (laid_flag _ _ _ c.flag-isvector.ensures c.put_vector-at2.ensures)
    (next (laid_flag _ _ _ c.flag-content.ensures c.put_body.ensures) done)))
    c.requires.body_in_bounds
