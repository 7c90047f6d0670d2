-- `arriving::packet::apply` meets its contract: each way out is an instance of a law of Applying and Block and Consistency and Told.
use native.Mathlib.Omega.{arith}
use mathlib.Core.Path.{refl, sym, ◌∙◌}
use Rattle.wire.specs.Round.Framing.{part_length}
use Rattle.receiver.specs.Blocks.{read_block}
use Rattle.receiver.specs.Facts.{consistent_facts}
use Rattle.judging.proofs.Told.{waiver_told, content_told, content_data}
use Rattle.arriving.proofs.Applying.{applied_refused, applied_nothing, applied_waiver, applied_content}
use Rattle.arriving.proofs.packet.apply.Goals as goal

pub waive-after-requires : goal.waive-after-requires
waive-after-requires c = (
  (consistent_facts 32 32 _ c.requires.r_value).base_range,
  waiver_told _ _ _ _ _ (sym c.requires.a_value ∙ c.in-Ok.is)
      c.in-Waiver.is,
)

pub note-after-requires : goal.note-after-requires
note-after-requires c = (
  (consistent_facts 32 32 _ c.requires.r_value).base_range,
  (content_told _ _ _ _ _ _ _
      (sym c.requires.a_value ∙ c.in-Ok.is) c.in-Content.is).1,
)

pub overflow_add-n : goal.overflow_add-n
overflow_add-n c = omega (arith, (content_told _ _ _ _ _ _ _ (sym c.requires.a_value ∙ c.in-Ok.is) c.in-Content.is).0)

pub hold-h-requires : goal.hold-h-requires
hold-h-requires c =
    let b = read_block _ _ c.requires.d_value
    (content_data _ _ _ _ _ _ _ (sym c.requires.a_value ∙ c.in-Ok.is)
    c.in-Content.is) in
    (c.requires.store_len, b.wide, omega (arith, b.place), b.inside, b.short)

pub returns-in_default : goal.returns-in_default
returns-in_default c = let both = applied_refused 32 _ _ _ _ _ (sym c.requires.a_value ∙ c.in_default.is) in record { «record» = both.0; bytes = both.1 }

pub returns-in-Nothing : goal.returns-in-Nothing
returns-in-Nothing c = let both = applied_nothing 32 _ _ _ _ _ (sym c.requires.a_value ∙ c.in-Ok.is) c.in-Nothing.is in record { «record» = both.0; bytes = both.1 }

pub returns-in-Waiver : goal.returns-in-Waiver
returns-in-Waiver c = let both = applied_waiver 32 _ _ _ _ _ (sym c.requires.a_value ∙ c.in-Ok.is) _ _ c.in-Waiver.is c.waive-after.ensures in record { «record» = both.0; bytes = both.1 }

pub returns-in-Content : goal.returns-in-Content
returns-in-Content c =
    let both = applied_content 32 _ _ _ _ _ (sym c.requires.a_value ∙ c.in-Ok.is) _ _
    _ c.in-Content.is _
    c.note-after.ensures _ c.max.ensures _
    c.place-at.ensures.0 _ refl
    (sym
    (part_length _ _ _
    (read_block _ _ c.requires.d_value
    (content_data _ _ _ _ _ _ _ (sym c.requires.a_value ∙ c.in-Ok.is)
    c.in-Content.is)).inside)) _ c.hold-h.ensures.place _
    c.hold-h.ensures.bytes in record { «record» = both.0; bytes = both.1 }
