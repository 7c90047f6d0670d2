-- A part that begins with the prefix: the prefix, and behind it what stands from place 1 on.
use Prim.Native.Nat.{ℕ, suc, ◌-◌, ◌≤◌, ◌<◌}
use mathlib.Core.List.{List, [], ◌∷◌}
use mathlib.Core.Path.{◌≡◌, refl, sym, ◌∙◌, ap}
use native.Mathlib.Omega.{arith}
use lib.ListN.{length, get_or, set, take, drop}
use Rattle.common.specs.Put.{put_of, put_none, put_one, put_put}
use Rattle.wire.specs.Frame.{swapped, byte_at}
use Rattle.wire.specs.Layout.{part_of}
use Rattle.wire.specs.Round.Framing.{swapped_length}

split : (p : List ℕ) (n : ℕ) → 0 < length p → take (suc n) (drop 0 p) ≡ get_or p 0 0 ∷ take n (drop 1 p)
split [] n h = absurd (omega arith)
split (x ∷ xs) n h = refl

part_front : (d : List ℕ) (n : ℕ) → 8 ≤ length d → 0 < n → part_of d 0 n ≡ byte_at (swapped d) 0 ∷ part_of d 1 (n - 1)
unfolding part_of
part_front d n h l =
    let e : n ≡ suc (n - 1) = omega arith in
    ap (λ (k : ℕ). take k (drop 0 (swapped d))) e ∙ split (swapped d) (n - 1) (omega (arith, swapped_length d))

-- n bytes are laid, or none
module _ (d out : List ℕ) (from n : ℕ) (at : from ≤ 0) where
  pub front_laid : (b : ℕ) (left : List ℕ) → 8 ≤ length d → 0 < n → n ≤ length out → b ≡ byte_at (swapped d) 0
      → left ≡ put_of (set out 0 b) 1 (part_of d 1 (n - 1)) → left ≡ put_of out 0 (part_of d from n)
  front_laid b left h l r e x =
      let z : 0 ≡ from = omega arith in
      let rest : List ℕ = part_of d 1 (n - 1) in
      x
      ∙ ap (λ (o : List ℕ). put_of o 1 rest) (put_one out 0 b (omega arith))
      ∙ put_put out 0 (b ∷ []) rest (omega arith)
      ∙ ap (λ (k : ℕ). put_of out 0 (k ∷ rest)) e
      ∙ ap (put_of out 0) (sym (part_front d n h l))
      ∙ ap (λ (k : ℕ). put_of out 0 (part_of d k n)) z

  pub nothing_laid : n ≤ 0 → out ≡ put_of out 0 (part_of d from n)
  unfolding part_of
  nothing_laid h = let z : 0 ≡ n = omega arith in sym (put_none out 0) ∙ ap (λ (k : ℕ). put_of out 0 (take k (drop from (swapped d)))) z
