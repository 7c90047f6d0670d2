-- What was read stands behind what was read before.
use Rattle.std.proofs.Common.{◌≡◌, ℕ, ◌+◌, ◌-◌, ◌≤◌, List, ◌++◌, rules, length, take, drop, sym, ap, ◌∙◌, subst, le_refl, drop_at, length-take-le}
use Rattle.std.proofs.lemmas.Slice.{take-put_mid_below}
use Rattle.std.specs.Io.KnownBytes.{Consumes}
use Rattle.std.proofs.KnownBytes.{Consumes-trans}
use borrow.Rule.Slice.PartMut.{put_mid, post_of}
use lib.Seq.{take-add, take-append-le}
use Rattle.input.proofs.read.Goals as goal

-- the first k bytes of ys, laid over xs from place a on, stand behind xs's first a
laid_behind : (a n k : ℕ) (xs ys : List ℕ) → a ≤ length xs → k ≤ length ys → take a xs ++ take k ys ≡ take (a + k) (put_mid a n xs ys)
laid_behind a n k xs ys h f =
    let out = put_mid a n xs ys in
    let front : take a out ≡ take a xs = take-put_mid_below _ _ _ _ _ (le_refl _) h in
    let back : take k (drop a out) ≡ take k ys = ap (take k) (drop_at (take a xs) (ys ++ post_of a n xs) a (length-take-le a xs h)) ∙ take-append-le k ys (post_of a n xs) f in
    ap (λ l. l ++ take k ys) (sym front) ∙ ap (λ l. take a out ++ l) (sym back) ∙ sym (take-add a k out)

pub loop-n-preserved : goal.loop-n-preserved
loop-n-preserved g c =
    let n = c.loop-n.n in
    let k = c.in_ok-more.more in
    let joined = laid_behind n (length c.loop-n.out - n) k c.loop-n.out c.read.new.buf c.loop-n.invariant.within c.in_ok-more.ensures.bound.0 in
    record {
      within = search rules;
      bytes = subst (Consumes _ _) joined (Consumes-trans _ _ _ _ _ c.loop-n.invariant.bytes c.in_ok-more.ensures.bytes.0);
    }
