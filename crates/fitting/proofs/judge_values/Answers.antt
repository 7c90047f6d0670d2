-- `fitting::judge_values` meets its contract: what its calls ensure, put together at each way out.
use mathlib.Core.Path.{◌∙◌, sym, ap}
use mathlib.Core.Bool.{Bool}
use borrow.Author.Tests.{le-leb, lt-leb}
use Rattle.common.specs.Answer.{answered_refused, answered_accepted}
use Rattle.common.specs.Order.{first_here, first_skip, first_none}
use Rattle.wire.specs.Flags.{both, ack_in}
use Rattle.wire.specs.Write.{ack_wide, vector_wide}
use Rattle.fitting.proofs.judge_values.Goals as goal

pub returns-then-has_others : goal.returns-then-has_others
returns-then-has_others c = answered_refused _ _ (first_here _ _ _ (sym c.has_others.ensures ∙ c.if-has_others.true))

pub returns-then-both_flagged : goal.returns-then-both_flagged
returns-then-both_flagged c = answered_refused _ _ (first_here _ _ _ (sym (c.both_flagged.ensures ∙ ap (λ (b : Bool). both b c.flag-isvector.result) c.flag-isack.ensures ∙ ap (both (ack_in c.args.v.flags)) c.flag-isvector.ensures) ∙ c.if-both_flagged.true) ∙ first_skip _ _ _ (sym c.has_others.ensures ∙ c.if-has_others.false))

pub returns-then-v-ge16 : goal.returns-then-v-ge16
returns-then-v-ge16 c = answered_refused _ _ (first_here _ _ _ (le-leb _ _ c.if-v-ge16.true) ∙ first_skip _ _ _ (sym (c.both_flagged.ensures ∙ ap (λ (b : Bool). both b c.flag-isvector.result) c.flag-isack.ensures ∙ ap (both (ack_in c.args.v.flags)) c.flag-isvector.ensures) ∙ c.if-both_flagged.false) ∙ first_skip _ _ _ (sym c.has_others.ensures ∙ c.if-has_others.false))

pub returns-then-ack_wide : goal.returns-then-ack_wide
returns-then-ack_wide c = answered_refused _ _ (first_here _ _ _ (sym (c.ack_wide.ensures ∙ ap (λ (b : Bool). both b (ack_wide c.args.v.ack c.args.additions)) c.flag-isack.ensures) ∙ c.if-ack_wide.true) ∙ first_skip _ _ _ (lt-leb _ _ c.if-v-ge16.false) ∙ first_skip _ _ _ (sym (c.both_flagged.ensures ∙ ap (λ (b : Bool). both b c.flag-isvector.result) c.flag-isack.ensures ∙ ap (both (ack_in c.args.v.flags)) c.flag-isvector.ensures) ∙ c.if-both_flagged.false) ∙ first_skip _ _ _ (sym c.has_others.ensures ∙ c.if-has_others.false))

pub returns-then-vector_wide : goal.returns-then-vector_wide
returns-then-vector_wide c = answered_refused _ _ (first_here _ _ _ (sym (c.vector_wide.ensures ∙ ap (λ (b : Bool). both b (vector_wide c.args.v.vector c.args.vector)) c.flag-isvector.ensures) ∙ c.if-vector_wide.true) ∙ first_skip _ _ _ (sym (c.ack_wide.ensures ∙ ap (λ (b : Bool). both b (ack_wide c.args.v.ack c.args.additions)) c.flag-isack.ensures) ∙ c.if-ack_wide.false) ∙ first_skip _ _ _ (lt-leb _ _ c.if-v-ge16.false) ∙ first_skip _ _ _ (sym (c.both_flagged.ensures ∙ ap (λ (b : Bool). both b c.flag-isvector.result) c.flag-isack.ensures ∙ ap (both (ack_in c.args.v.flags)) c.flag-isvector.ensures) ∙ c.if-both_flagged.false) ∙ first_skip _ _ _ (sym c.has_others.ensures ∙ c.if-has_others.false))

pub returns : goal.returns
returns c = answered_accepted _ (first_none ∙ first_skip _ _ _ (sym (c.vector_wide.ensures ∙ ap (λ (b : Bool). both b (vector_wide c.args.v.vector c.args.vector)) c.flag-isvector.ensures) ∙ c.if-vector_wide.false) ∙ first_skip _ _ _ (sym (c.ack_wide.ensures ∙ ap (λ (b : Bool). both b (ack_wide c.args.v.ack c.args.additions)) c.flag-isack.ensures) ∙ c.if-ack_wide.false) ∙ first_skip _ _ _ (lt-leb _ _ c.if-v-ge16.false) ∙ first_skip _ _ _ (sym (c.both_flagged.ensures ∙ ap (λ (b : Bool). both b c.flag-isvector.result) c.flag-isack.ensures ∙ ap (both (ack_in c.args.v.flags)) c.flag-isvector.ensures) ∙ c.if-both_flagged.false) ∙ first_skip _ _ _ (sym c.has_others.ensures ∙ c.if-has_others.false))
