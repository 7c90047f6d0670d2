-- `reading_lines` meets its contract, a law for each kind of reading.
use native.Mathlib.Omega.{arith}
use Rattle.text.specs.Within.{within_as, within_wider, within_then}
use Rattle.listing.proofs.Readings.{refused_lines, dummy_lines, read_lines}
use Rattle.listing.proofs.reading_lines.Goals as goal

pub returns-in-Err : goal.returns-in-Err
returns-in-Err c = within_as (refused_lines c.in-Err.is c.from.ensures) (within_wider 503 (omega arith) c.number_line.ensures)

pub returns-in-Ok-None : goal.returns-in-Ok-None
returns-in-Ok-None c =
    let it = c.in-Ok-None in
    let none = rw it.is at it.field-0-is in
    within_as (dummy_lines (rw none at it.is)) (within_wider 503 (omega arith) (within_then (omega arith) c.number_line-at.ensures (λ h. c.number_line-in-Ok-None.ensures)))

pub returns-in-Ok-Some : goal.returns-in-Ok-Some
returns-in-Ok-Some c =
    let it = c.in-Ok-Some in
    let some = rw it.is at it.field-0-is in
    within_as (read_lines (rw some at it.is)) c.lines.ensures
