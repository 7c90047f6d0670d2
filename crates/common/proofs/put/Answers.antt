-- `common::put` meets its contract: at each turn of the loop, the places before i are those of src.
use borrow.Author.Rules.{rules}
use native.Mathlib.Omega.{arith}
use native.Mathlib.Numerals.{add-one}
use mathlib.Core.Path.{◌≡◌, ◌∙◌}
use lib.ListN.{length}
use lib.Seq.{paste-zero, paste-suc, take-length}
use Rattle.common.specs.Put.{put_of}
use Rattle.common.proofs.put.Goals as goal

pub loop-i-init : goal.loop-i-init
loop-i-init c = (search rules, paste-zero _ c.args.at c.args.src.now)

pub loop-i-preserved : goal.loop-i-preserved
loop-i-preserved c =
    let a = c.args in
    let l = c.loop-i in
    (search rules, rw (l.invariant.1, add-one) (paste-suc a.dst.now a.at a.src.now l.i 0 (omega arith) (omega arith)))

pub returns : goal.returns
unfolding put_of
returns c =
    let a = c.args in
    let l = c.loop-i in
    let e : l.i ≡ length a.src.now = omega arith in
    l.invariant.1 ∙ rw (e, take-length)
