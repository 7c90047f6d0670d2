-- `reader::read_packet` meets its contract: each way out is an instance of a law of Refusals.
use mathlib.Core.Path.{◌∙◌, ap, sym}
use mathlib.Core.Bool.{Bool}
use Prim.Native.Nat.{ℕ, ◌%◌}
use Rattle.wire.specs.Flags.{both, ack_in}
use Rattle.reader.proofs.Refusals.{header_past, header_others, header_both, header_read}
use Rattle.reader.proofs.read_packet.Goals as goal

pub returns-then-end-lt3 : goal.returns-then-end-lt3
returns-then-end-lt3 c = header_past _ _ c.if-end-lt3.true

pub returns-then-has_others : goal.returns-then-has_others
returns-then-has_others c = header_others _ _ _ (c.flags_of-flags.ensures ∙ ap (λ (n : ℕ). n % 4096) c.word_at-header.ensures) c.if-end-lt3.false (sym c.has_others.ensures ∙ c.if-has_others.true)

pub returns-then-both_flagged : goal.returns-then-both_flagged
returns-then-both_flagged c = let acks = c.both_flagged.ensures ∙ ap (λ (b : Bool). both b c.flag-2.result) c.flag.ensures ∙ ap (both (ack_in c.flags_of-flags.result)) c.flag-2.ensures in
    header_both _ _ _ (c.flags_of-flags.ensures ∙ ap (λ (n : ℕ). n % 4096) c.word_at-header.ensures) c.if-end-lt3.false (sym c.has_others.ensures ∙ c.if-has_others.false) (sym acks ∙ c.if-both_flagged.true)

pub returns : goal.returns
returns c = let acks = c.both_flagged.ensures ∙ ap (λ (b : Bool). both b c.flag-2.result) c.flag.ensures ∙ ap (both (ack_in c.flags_of-flags.result)) c.flag-2.ensures in
    header_read _ _ _ _ (c.flags_of-flags.ensures ∙ ap (λ (n : ℕ). n % 4096) c.word_at-header.ensures) c.if-end-lt3.false (sym c.has_others.ensures ∙ c.if-has_others.false) (sym acks ∙ c.if-both_flagged.false) c.read_payloads.ensures
