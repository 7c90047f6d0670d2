-- What an answer that was written tells, and what a sound record does, over any window w.
use Rattle.std.specs.Prelude.{Err, Ok}
use Prim.Native.Nat.{ℕ, ◌<◌}
use mathlib.Core.Bool.{Bool, true, false, cond}
use mathlib.Core.List.{List}
use mathlib.Core.Path.{◌≡◌, refl, sym, ◌∙◌, ap}
use native.Mathlib.Omega.{arith}
use lib.ListN.{length}
use lib.Dec.{eqb}
use borrow.Author.Tests.{eqb-true, eqb-false}
use Rattle.common.specs.declared.Refusal.{Refusal}
use Rattle.common.specs.Answer.{written_of, settled_err, settled_ok}
use Rattle.window.specs.Store.{store_size}
use Rattle.sender.specs.declared.Sender.{Sender}
use Rattle.sender.specs.Consistent.{sound_of}
use Rattle.sender.specs.Facts.{Bounds, consistent_facts}
use Rattle.sender.specs.SendReady.{sound_facts}

-- what an answer that was written tells of its number
pub refused_is : (r : Refusal) (a : ℕ) (b : List ℕ) → Err r ≡ written_of a b → a ≡ 0 → ⊥
unfolding written_of
refused_is r a b e = (settled_err r a (length b) e).0

pub wrote_is : (k a : ℕ) (b : List ℕ) → Ok k ≡ written_of a b → a ≡ 0
unfolding written_of
wrote_is k a b e = sym (settled_ok k a (length b) e).0

-- what a sound record tells
pub sound_bounds : (w : ℕ) (s : Sender) (size : ℕ) → 0 < w → sound_of w w s size ≡ true → Bounds w s × (size ≡ store_size w)
sound_bounds w s size lw h =
    let (k, e) = sound_facts w w s size h in
    ((consistent_facts w w s lw (omega arith) k).bounds, e)
