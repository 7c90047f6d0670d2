-- `sender_checking::walk_numbers` meets its contract: each number is an instance of a law, and so is the way out.
use Prim.Native.Nat.{◌-◌}
use mathlib.Core.Path.{◌≡◌}
use native.Mathlib.Omega.{arith}
use borrow.Author.Rules.{rules}
use Rattle.sender_checking.proofs.Walking.{walk_none, walk_stops, walk_more, walk_end}
use Rattle.sender_checking.proofs.walk_numbers.Goals as goal

pub loop-n-init : goal.loop-n-init
loop-n-init c = λ f t k. walk_none 32 _ _ (let z : c.args.low - c.args.low ≡ 0 = omega arith in z)

pub loop-n-preserved : goal.loop-n-preserved
loop-n-preserved c = λ f t k. walk_more 32 _ _ c.loop-n.n _ _ _ c.requires c.loop-n.auto.n c.loop-n-test.true c.place-numberat.ensures.0 c.place-at.ensures.0 c.used_fits.ensures (c.loop-n.invariant f t k) c.if-not-fits.false

pub returns-then-not-fits : goal.returns-then-not-fits
returns-then-not-fits c = λ f t k. walk_stops 32 _ _ c.loop-n.n _ _ _ c.requires c.loop-n.auto.n c.loop-n-test.true c.place-numberat.ensures.0 c.place-at.ensures.0 c.used_fits.ensures (c.loop-n.invariant f t k) _ c.if-not-fits.true

pub returns : goal.returns
returns c = λ f t k. walk_end 32 _ _ c.loop-n.n c.loop-n-test.false (c.loop-n.invariant f t k) (search rules) (search rules)
