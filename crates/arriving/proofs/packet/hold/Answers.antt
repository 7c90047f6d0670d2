-- `arriving::packet::hold` meets its contract: each way out is an instance of a law of Applying.
use mathlib.Core.Path.{refl}
use Rattle.arriving.proofs.Applying.{kept_late, kept_held, kept_new}
use Rattle.arriving.proofs.packet.hold.Goals as goal

pub returns-then-c-due : goal.returns-then-c-due
returns-then-c-due c = let k = kept_late c.args.due.0 c.args.c.0 c.args.h c.if-c-due.true in record { place = rw k refl; bytes = rw k refl }

pub returns-then-h-eq1 : goal.returns-then-h-eq1
returns-then-h-eq1 c =
    let k = kept_held c.args.due.0 c.args.c.0
    c.args.h c.if-c-due.false c.if-h-eq1.true in record { place = rw k refl; bytes = rw k refl }

pub returns : goal.returns
returns c =
    let k = kept_new c.args.due.0
    c.args.c.0
    c.args.h c.if-c-due.false
    c.if-h-eq1.false in
    record { place = rw k refl; bytes = rw (k, ← c.place-at.ensures.0) c.copy_part.ensures }
