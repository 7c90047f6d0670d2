-- One turn of the loops that write a vector.
use Prim.Native.Nat.{ℕ, suc, ◌+◌, ◌*◌, ◌-◌, ◌^◌, ◌≤◌, ◌<◌, min}
use mathlib.Core.Bool.{Bool, true, false, not, beq}
use mathlib.Core.List.{List, [], ◌∷◌}
use mathlib.Core.Path.{◌≡◌, refl, sym, ◌∙◌, ap}
use native.Mathlib.Omega.{arith}
use lib.ListN.{length, get_or, take, drop, set, length-drop, length-set, drop_of_length-le}
use lib.Seq.{drop-drop}
use lib.Pow.{pow_mono}
use lib.Dec.{ltb}
use borrow.Author.Tests.{ltb-true, ltb-false}
use Rattle.std.proofs.Common.{⊎_elim}
use Rattle.common.specs.Facts.{lt_or_ge}
use Rattle.common.specs.Put.{put_of, put_none, put_one, put_put}
use Rattle.vector.specs.Rule.{one, alike, run_of, map_of, byte_of, covers_of, vector_of}
use Rattle.vector.specs.Laws.{front, alike_same, alike_other, alike_none, alike_within, map_step, run_at_most, map_fits, byte_map, byte_run, covers_map, covers_run, covers_some, vector_none, vector_more}

pub run_start : (s : Bool) (ts : List Bool) → min 63 (1 + alike s ts) ≡ run_of s ts
unfolding run_of
run_start s ts = omega arith

module _ (ss : List Bool) (s : Bool) (i n r : ℕ) (inv : min 63 (n + alike s (drop (i + n) ss)) ≡ r) where
  pub run_more : i + n < length ss → not (beq (get_or ss (i + n) false) s) ≡ false → min 63 (n + 1 + alike s (drop (i + (n + 1)) ss)) ≡ r
  run_more h e =
      let a : alike s (drop (i + n) ss) ≡ suc (alike s (drop (i + n + 1) ss)) = rw (front ss (i + n) h) (alike_same s (get_or ss (i + n) false) (drop (i + n + 1) ss) e) in
      let p : i + (n + 1) ≡ i + n + 1 = omega arith in
      rw p (omega arith)

  pub run_other : i + n < length ss → not (beq (get_or ss (i + n) false) s) ≡ true → n ≤ 63 → n ≡ r
  run_other h e l =
      let a : alike s (drop (i + n) ss) ≡ 0 = rw (front ss (i + n) h) (alike_other s (get_or ss (i + n) false) (drop (i + n + 1) ss) e) in
      omega arith

  pub run_longest : n ≡ min (length ss - i) 63 → n ≡ r
  run_longest h = ⊎_elim end full (lt_or_ge (length ss - i) 63)
    where
      end : length ss - i < 63 → n ≡ r
      end l =
          let a : alike s (drop (i + n) ss) ≡ 0 = rw (drop_of_length-le ss {i = i + n} (omega arith)) (alike_none s) in
          omega arith

      full : 63 ≤ length ss - i → n ≡ r
      full l = omega arith

-- A MAP, FROM ITS LAST STATE TO ITS FIRST

pub bit_small : (s : Bool) → one s < 2
bit_small true = omega arith
bit_small false = omega arith

pub map_small : (ss : List Bool) (k : ℕ) → 0 < k → map_of (take (7 - k) ss) < 64
map_small ss k h =
    let f = map_fits (7 - k) ss in
    let p : 2 ^ (7 - k) ≤ 2 ^ 6 = pow_mono {i = 7 - k} {j = 6} (omega arith) in
    omega arith

pub map_more : (ss : List Bool) (i k : ℕ) → 0 < k → k ≤ 7
    → one (get_or ss (i + (k - 1)) false) + 2 * map_of (take (7 - k) (drop (i + k) ss)) ≡ map_of (take (7 - (k - 1)) (drop (i + (k - 1)) ss))
map_more ss i k h l =
    let e : i + k ≡ suc (i + (k - 1)) = omega arith in
    let f : 7 - (k - 1) ≡ suc (7 - k) = omega arith in
    rw (e, f) (sym (map_step ss (i + (k - 1)) (7 - k)))

-- THE BYTE AND THE PLACE AFTER IT: n is the run from place i on

-- the place after the states that the byte for place i covers
abbrev pub after : List Bool → ℕ → ℕ
after ss i = min (length ss) (i + covers_of (get_or ss i false) (drop (i + 1) ss))

pub after_further : (ss : List Bool) (i : ℕ) → i < length ss → i < after ss i
after_further ss i h = let c = covers_some (get_or ss i false) (drop (i + 1) ss) in omega arith

pub run_fits : (n : ℕ) (s : Bool) (ts : List Bool) → n ≡ run_of s ts → n < 64
run_fits n s ts e = omega (arith, run_at_most s ts)

pub run_within : (ss : List Bool) (i : ℕ) → i < length ss → i + run_of (get_or ss i false) (drop (i + 1) ss) ≤ length ss
unfolding run_of
run_within ss i h = omega (arith, alike_within (get_or ss i false) (drop (i + 1) ss), length-drop (i + 1) ss)

module _ (ss : List Bool) (i n : ℕ) (h : i < length ss) (run : n ≡ run_of (get_or ss i false) (drop (i + 1) ss)) where
  pub byte_of_map : n ≤ 7 → map_of (take 7 (drop i ss)) ≡ byte_of (get_or ss i false) (drop (i + 1) ss)
  byte_of_map l = rw (front ss i h) (byte_map (get_or ss i false) (drop (i + 1) ss) (omega arith))

  pub byte_of_run : 7 < n → 128 + 64 * one (get_or ss (i + 0) false) + n ≡ byte_of (get_or ss i false) (drop (i + 1) ss)
  byte_of_run l =
      let e : i + 0 ≡ i = omega arith in
      rw (e, run) (byte_run (get_or ss i false) (drop (i + 1) ss) (omega arith))

  pub after_run : 7 < n → i + n ≡ after ss i
  after_run l =
      let c = covers_run (get_or ss i false) (drop (i + 1) ss) (omega arith) in
      let w = run_within ss i h in
      omega arith

  pub after_map : n ≤ 7 → i + min (length ss - i) 7 ≡ after ss i
  after_map l = let c = covers_map (get_or ss i false) (drop (i + 1) ss) (omega arith) in omega arith

-- THE BYTES FROM A PLACE ON

-- past the end of the range nothing is left
drop_min : (ss : List Bool) (n : ℕ) → drop n ss ≡ drop (min (length ss) n) ss
drop_min ss n = go (ltb (length ss) n) refl
  where
    go : (b : Bool) → ltb (length ss) n ≡ b → drop n ss ≡ drop (min (length ss) n) ss
    go true e =
        let h = ltb-true (length ss) n e in
        drop_of_length-le ss {i = n} (omega arith) ∙ sym (drop_of_length-le ss {i = min (length ss) n} (omega arith))
    go false e =
        let h = ltb-false (length ss) n e in
        let m : n ≡ min (length ss) n = omega arith in
        ap (λ (k : ℕ). drop k ss) m

pub vector_place_lem : (ss : List Bool) (i : ℕ) → i < length ss
    → vector_of (drop i ss) ≡ byte_of (get_or ss i false) (drop (i + 1) ss) ∷ vector_of (drop (after ss i) ss)
vector_place_lem ss i h =
    let s = get_or ss i false in
    let ts = drop (i + 1) ss in
    let d : drop (covers_of s ts) (s ∷ ts) ≡ drop (after ss i) ss =
    ap (drop (covers_of s ts)) (sym (front ss i h)) ∙ drop-drop (covers_of s ts) i ss ∙ drop_min ss (i + covers_of s ts) in
    ap vector_of (front ss i h) ∙ vector_more s ts ∙ ap (λ (r : List Bool). byte_of s ts ∷ vector_of r) d

vector_past : (ss : List Bool) (i : ℕ) → length ss ≤ i → vector_of (drop i ss) ≡ []
vector_past ss i h = rw (drop_of_length-le ss h) vector_none

-- HOW MANY BYTES: n of them are counted

module _ (ss : List Bool) (i n r : ℕ) (inv : n + length (vector_of (drop i ss)) ≡ r) where
  pub size_more : i < length ss → n + 1 + length (vector_of (drop (after ss i) ss)) ≡ r
  size_more h = omega (arith, ap length (vector_place_lem ss i h))

  pub size_end : length ss ≤ i → n ≡ r
  size_end h = omega (arith, ap length (vector_past ss i h))

-- THE BYTES WRITTEN: j of them stand

pub fill_room : (ss : List Bool) (out : List ℕ) (i j b : ℕ) → i < length ss → j + length (vector_of (drop i ss)) ≤ length out
    → j + 1 + length (vector_of (drop (after ss i) ss)) ≤ length (set out j b)
fill_room ss out i j b h l = omega (arith, ap length (vector_place_lem ss i h), length-set out j b)

module _ (ss : List Bool) (out whole : List ℕ) (i j : ℕ) (inv : put_of out j (vector_of (drop i ss)) ≡ whole) where
  pub fill_more : i < length ss → j + length (vector_of (drop i ss)) ≤ length out
      → put_of (set out j (byte_of (get_or ss i false) (drop (i + 1) ss))) (j + 1) (vector_of (drop (after ss i) ss)) ≡ whole
  fill_more h l =
      let b = byte_of (get_or ss i false) (drop (i + 1) ss) in
      let v = vector_place_lem ss i h in
      let k = ap length v in
      rw (put_one out j b (omega arith))
      (put_put out j (b ∷ []) (vector_of (drop (after ss i) ss)) (omega arith) ∙ ap (put_of out j) (sym v) ∙ inv)

  pub fill_end : length ss ≤ i → out ≡ whole
  fill_end h = sym (put_none out j) ∙ ap (put_of out j) (sym (vector_past ss i h)) ∙ inv
