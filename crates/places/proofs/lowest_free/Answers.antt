-- `places::lowest_free` meets its contract: the place found is free and none below it is, and past the end none is free at all.
use Rattle.std.proofs.Common.{◌≤◌, arith, sym, ◌∙◌, add-one}
use Rattle.session.specs.List.{lowest_of}
use Rattle.session.specs.Lowest.{lowest_within, lowest_found, lowest_above}
use Rattle.places.proofs.lowest_free.Goals as goal

pub returns-then-is_free : goal.returns-then-is_free
returns-then-is_free c =
    let found : lowest_of c.args.list.now ≤ c.loop-i.i = lowest_found c.args.list.now c.loop-i.i _ (omega arith) (sym c.is_free.ensures ∙ c.if-is_free.true) in
    omega arith

pub loop-i-preserved : goal.loop-i-preserved
loop-i-preserved c = rw add-one (lowest_above c.args.list.now c.loop-i.i _ (omega arith) (sym c.is_free.ensures ∙ c.if-is_free.false) c.loop-i.invariant)

pub returns : goal.returns
returns c = omega (arith, lowest_within c.args.list.now)
