-- `field` meets its contract: what comes before, the number and what comes behind are laid one after the other.
use native.Mathlib.Omega.{arith}
use mathlib.Core.Path.{sym}
use mathlib.Core.List.{append-nil}
use Rattle.text.specs.Within.{within, within_decimal, within_length, within_then, within_as}
use Rattle.text.proofs.field.Goals as goal

pub lay-requires : goal.lay-requires
lay-requires c =
    let w = within_decimal (omega arith) c.decimal-end.ensures in
    omega (arith, within_length (omega arith) w, w.room)

pub returns : goal.returns
returns c =
    within_then c.requires
    (within _ (omega arith) c.lay-start.ensures)
    (λ n. within_then n (within_decimal (omega arith) c.decimal-end.ensures)
    (λ m. within_as (sym (append-nil _)) (within _ (omega arith) c.lay.ensures)))
