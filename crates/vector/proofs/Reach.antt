-- Why no vector is shorter than the rule's: from any place that a byte of some vector gives its right state, the rule's byte reaches at least as far as
-- that byte does, or to the end of the range.
use Rattle.std.specs.Prelude.{ℕ, zero, suc, ◌+◌, ◌-◌, ◌%◌, ◌≤◌, ◌<◌, min, Bool, true, cond, List, [], ◌∷◌, ◌≡◌, refl, length, get_or, drop, ltb}
use Rattle.std.proofs.Math.Bool.{false}
use Rattle.std.proofs.Common.{⊎_elim, ◌∙◌, ap, arith, drop_of_length-le, get_or-drop, drop-drop, get_or-append-add, ltb-false}
use Rattle.std.proofs.Math.Path.{sym}
use Rattle.std.proofs.Math.ListN.{length-drop, length-append, get_or-append}
use Rattle.common.specs.Facts.{lt_or_ge, clash}
use Rattle.vector.specs.declared.Saying.{Saying}
use Rattle.vector.specs.declared.Saying.TheVariants.{Map, Run}
use Rattle.vector.specs.Says.{bit_of, says_of, states_in, states_of, Gives}
use Rattle.vector.specs.Rule.{alike, run_of, covers_of, vector_of}
use Rattle.vector.specs.Laws.{span_map, span_run, state_run, covers_some, vector_none, vector_more}

-- HOW FAR THE RULE'S BYTE REACHES

-- d states s at the front are a run of d at least
alike_least : (s : Bool) (ss : List Bool) (d : ℕ) → d ≤ length ss → ((i : ℕ) → i < d → get_or ss i false ≡ s) → d ≤ alike s ss
unfolding alike
alike_least s ss zero l h = omega arith
alike_least s [] (suc d) l h = absurd (omega arith)
alike_least true (true ∷ ts) (suc d) l h = let r = alike_least true ts d (omega arith) (λ i k. h (suc i) (omega arith)) in omega arith
alike_least true (false ∷ ts) (suc d) l h = clash false (h 0 (omega arith)) refl
alike_least false (true ∷ ts) (suc d) l h = clash true refl (h 0 (omega arith))
alike_least false (false ∷ ts) (suc d) l h = let r = alike_least false ts d (omega arith) (λ i k. h (suc i) (omega arith)) in omega arith

-- where the run is no longer than a map, the map reaches past it
run_covered : (s : Bool) (ss : List Bool) → run_of s ss ≤ covers_of s ss
unfolding covers_of
run_covered s ss = go (ltb 7 (run_of s ss)) refl
  where
    go : (b : Bool) → ltb 7 (run_of s ss) ≡ b → run_of s ss ≤ cond b (run_of s ss) 7
    go true e = omega arith
    go false e = ltb-false 7 (run_of s ss) e

covers_alike : (s : Bool) (ss : List Bool) (d : ℕ) → d ≤ 63 → d ≤ suc (length ss) → ((i : ℕ) → i < d → get_or (s ∷ ss) i false ≡ s) → d ≤ covers_of s ss
unfolding run_of
covers_alike s ss d short l h =
    omega (arith, run_covered s ss, alike_least s ss (d - 1) (omega arith) (λ i k. h (suc i) (omega arith)))

-- WHERE A BYTE ENDS

run_short : (b : ℕ) (s : Bool) (n : ℕ) → Run s n ≡ says_of b → n ≤ 63
unfolding says_of
run_short b s n e = go (bit_of b 7) (ap long e)
  where
    long : Saying → ℕ
    long (Map m) = 0
    long (Run t k) = k

    go : (t : Bool) → n ≡ long (cond t (Run (bit_of b 6) (b % 64)) (Map (b % 128))) → n ≤ 63
    go true e = omega arith
    go false e = omega arith

-- a byte that gives the front of a range its states, and any place of the range: the rule's byte for that place reaches to where the other ends
module _ (b : ℕ) (ss : List Bool)
    (right : (i : ℕ) → i < min (length (states_in (says_of b))) (length ss) → get_or (states_in (says_of b)) i false ≡ get_or ss i false) where
  reaches : (j : ℕ) (x : Bool) (xs : List Bool) → drop j ss ≡ x ∷ xs → min (length (states_in (says_of b))) (length ss) ≤ j + covers_of x xs
  reaches j x xs e = go (says_of b) refl
    where
      run : (s : Bool) (n : ℕ) → Run s n ≡ says_of b → j < min n (length ss) → min n (length ss) ≤ j + covers_of x xs
      run s n q l = omega (arith, covers_alike x xs (min n (length ss) - j) (omega (arith, run_short b s n q)) (omega (arith, size)) same)
        where
          size : length ss - j ≡ suc (length xs)
          size = sym (length-drop j ss) ∙ ap length e

          state : (i : ℕ) → i < min n (length ss) - j → get_or (x ∷ xs) i false ≡ s
          state i k =
              ap (λ (l : List Bool). get_or l i false) (sym e) ∙ get_or-drop j ss i false
              ∙ sym (right (j + i) (omega (arith, span_run b s n q))) ∙ sym (state_run b s n (j + i) q (omega arith))

          same : (i : ℕ) → i < min n (length ss) - j → get_or (x ∷ xs) i false ≡ x
          same i k = state i k ∙ sym (state 0 (omega arith))

      go : (y : Saying) → y ≡ says_of b → min (length (states_in (says_of b))) (length ss) ≤ j + covers_of x xs
      go (Map m) q = omega (arith, span_map b m q, covers_some x xs)
      go (Run s n) q =
          let l = span_run b s n q in
          ⊎_elim (λ lt. omega (arith, run s n q lt)) (λ ge. omega arith) (lt_or_ge j (min n (length ss)))

  -- so from any place on the rule needs at most one byte more than from where the other ends
  one_more : (m : ℕ) → ((j : ℕ) → length (vector_of (drop j (drop (length (states_in (says_of b))) ss))) ≤ m)
      → (j : ℕ) → length (vector_of (drop j ss)) ≤ suc m
  one_more m rest j = go (drop j ss) refl
    where
      k : ℕ
      k = length (states_in (says_of b))

      past : (n : ℕ) → min k (length ss) ≤ n → length (vector_of (drop n ss)) ≤ m
      past n h =
          ⊎_elim
          (λ within.
          let e : n ≡ k + (n - k) = omega arith in
          rw (ap (λ (i : ℕ). drop i ss) e, ← drop-drop (n - k) k ss) (rest (n - k)))
          (λ out. rw (drop_of_length-le ss {i = n} (omega arith), vector_none) (omega arith))
          (lt_or_ge n (length ss))

      go : (ts : List Bool) → drop j ss ≡ ts → length (vector_of ts) ≤ suc m
      go [] e = rw vector_none (omega arith)
      go (x ∷ xs) e =
          let d : drop (covers_of x xs) (x ∷ xs) ≡ drop (j + covers_of x xs) ss = ap (drop (covers_of x xs)) (sym e) ∙ drop-drop (covers_of x xs) j ss in
          let l = past (j + covers_of x xs) (reaches j x xs e) in
          rw (vector_more x xs, d) (omega arith)

-- BYTE AFTER BYTE

module _ (b : ℕ) (v : List ℕ) (ss : List Bool) (g : Gives (b ∷ v) ss) where
  -- the first byte gives the front of the range its states
  gives_front : (i : ℕ) → i < min (length (states_in (says_of b))) (length ss) → get_or (states_in (says_of b)) i false ≡ get_or ss i false
  unfolding states_of
  gives_front i h = sym (get_or-append (states_in (says_of b)) (states_of v) false i (omega arith)) ∙ g.right i (omega arith)

  -- and the bytes after it the rest
  gives_rest : Gives v (drop (length (states_in (says_of b))) ss)
  unfolding states_of
  gives_rest =
      let p = states_in (says_of b) in
      let l = length-drop (length p) ss in
      let a = length-append p (states_of v) in
      let t = g.every in
      record {
        every = omega arith;
        right = λ i h.
            sym (get_or-append-add p (states_of v) i false) ∙ g.right (length p + i) (omega arith) ∙ sym (get_or-drop (length p) ss i false);
      }

-- from any place of the range on, the rule needs no more bytes than a vector that gives the whole range its states
pub fewest_from : (v : List ℕ) (ss : List Bool) (j : ℕ) → Gives v ss → length (vector_of (drop j ss)) ≤ length v
unfolding states_of
fewest_from [] ss j g = let t = g.every in rw (drop_of_length-le ss {i = j} (omega arith), vector_none) (omega arith)
fewest_from (b ∷ v) ss j g =
    one_more b ss (gives_front b v ss g) (length v)
    (λ i. fewest_from v (drop (length (states_in (says_of b))) ss) i (gives_rest b v ss g)) j
