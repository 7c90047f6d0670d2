-- `judging::judge` meets its contract: each way out is an instance of a law of Consistency and Judging.
use mathlib.Core.Path.{sym, ◌∙◌}
use Rattle.std.proofs.lemmas.Result.{err_from_is_err_and}
use Rattle.receiver.specs.Facts.{consistent_facts}
use Rattle.judging.proofs.Judging.{content_waived, content_number, content_channel, content_refused, content_accepted, waiver_absent, waiver_out, waiver_high, waiver_given}
use Rattle.judging.proofs.judge.Goals as goal

pub waived_to-requires : goal.waived_to-requires
waived_to-requires c = (consistent_facts 32 32 _ c.requires).base_range

pub returns-in_default : goal.returns-in_default
returns-in_default c =
    content_waived _ c.args.r
    c.args.v
    (sym c.flag.ensures ∙ c.if-flag.true) _ _
    c.flag-aoa.ensures c.waived_to.ensures c.in_default.is

pub number_at-requires : goal.number_at-requires
number_at-requires c = (consistent_facts 32 32 _ c.requires).base_range

pub returns-in_default-number_at : goal.returns-in_default-number_at
returns-in_default-number_at c =
    content_number _ c.args.r
    c.args.v
    (sym c.flag.ensures ∙
    c.if-flag.true) _ c.number_at.ensures c.in_default-number_at.is

pub number_at-requires-then-flag : goal.number_at-requires-then-flag
number_at-requires-then-flag c = (consistent_facts 32 32 _ c.requires).due_range

pub returns-in_default-number_at-2 : goal.returns-in_default-number_at-2
returns-in_default-number_at-2 c =
    content_channel _
    c.args.r
    c.args.v
    (sym c.flag.ensures ∙
    c.if-flag.true) _ c.number_at-then-flag.ensures
    c.in_default-number_at-2.is

pub number_answer-requires : goal.number_answer-requires
number_answer-requires c =
    let f = consistent_facts 32 32 _
    c.requires in
    (f.base_range, f.due_range)

pub returns-in_err-number_answer : goal.returns-in_err-number_answer
returns-in_err-number_answer c =
    let p = err_from_is_err_and c.from_residual.result c.from_residual.ensures.1 in
    rw (p.1, p.2)
    (content_refused _ c.args.r c.args.v (sym c.flag.ensures ∙ c.if-flag.true) _ _ _ _ _ _ _ c.flag-aoa.ensures c.waived_to.ensures c.in-Some.is
    c.number_at.ensures c.in-Some-number_at.is c.number_at-then-flag.ensures c.in-Some-number_at-2.is _ c.in_err-number_answer.ensures)

pub returns-then-flag : goal.returns-then-flag
returns-then-flag c =
    content_accepted _ c.args.r c.args.v (sym c.flag.ensures ∙ c.if-flag.true) _ _ _ _ _ _ _ c.flag-aoa.ensures c.waived_to.ensures c.in-Some.is
    c.number_at.ensures c.in-Some-number_at.is c.number_at-then-flag.ensures c.in-Some-number_at-2.is _ c.in_ok-number_answer.ensures

pub number_at-requires-then-aoa : goal.number_at-requires-then-aoa
number_at-requires-then-aoa c = (consistent_facts 32 32 _ c.requires).base_range

pub returns-in_default-number_at-3 : goal.returns-in_default-number_at-3
returns-in_default-number_at-3 c =
    waiver_out _ c.args.r
    c.args.v _ c.flag.ensures
    c.if-flag.false _ c.flag-aoa.ensures c.if-aoa.true _
    c.number_at-then-aoa.ensures c.in_default-number_at-3.is

pub returns-then-u-gt-HIGHEST : goal.returns-then-u-gt-HIGHEST
returns-then-u-gt-HIGHEST c =
    waiver_high _ c.args.r
    c.args.v _
    c.flag.ensures c.if-flag.false _
    c.flag-aoa.ensures c.if-aoa.true _
    c.number_at-then-aoa.ensures _ c.in-Some-number_at-3.is c.if-u-gt-HIGHEST.true

pub returns-then-aoa : goal.returns-then-aoa
returns-then-aoa c =
    waiver_given _ c.args.r
    c.args.v _
    c.flag.ensures c.if-flag.false _
    c.flag-aoa.ensures c.if-aoa.true _
    c.number_at-then-aoa.ensures _ c.in-Some-number_at-3.is c.if-u-gt-HIGHEST.false

pub returns : goal.returns
returns c =
    waiver_absent _ c.args.r c.args.v _
    c.flag.ensures c.if-flag.false _ c.flag-aoa.ensures c.if-aoa.false
