-- Why what the rule writes reads back: each byte says the states that it covers, and the rest of the vector the rest of the range.
use Rattle.std.specs.Prelude.{ℕ, zero, suc, ◌+◌, ◌*◌, ◌-◌, ◌/◌, ◌%◌, ◌≤◌, ◌<◌, Bool, true, false, List, [], ◌∷◌, ◌++◌, ◌≡◌, refl, length, get_or, take, drop, ltb}
use Rattle.std.proofs.Common.{sym, ◌∙◌, ap, arith, length-drop, length-append, get_or-drop, get_or-append-add, ltb-true, ltb-false}
use Rattle.std.proofs.Math.ListN.{get_or-append}
use Rattle.std.proofs.Math.Seq.{take-nil}
use Rattle.vector.specs.declared.Saying.TheVariants.{Map, Run}
use Rattle.vector.specs.Says.{says_of, bits_of, states_in, states_of}
use Rattle.vector.specs.Rule.{one, alike, run_of, map_of, byte_of, covers_of, vector_of}
use Rattle.vector.specs.Laws.{bits_at, says_run, says_map, span_map, span_run, state_map, state_run, run_at_most, map_fits, byte_map, byte_run, covers_map, covers_run, covers_some, vector_none, vector_more}

-- A RUN BYTE

run_says : (s : Bool) (n : ℕ) → n < 64 → Run s n ≡ says_of (128 + 64 * one s + n)
run_says true n h =
    let b = 128 + 64 * 1 + n in
    let r : b / 128 % 2 ≡ 1 = omega arith in
    let p : b / 64 % 2 ≡ 1 = omega arith in
    let q : b % 64 ≡ n = omega arith in
    sym (rw (p, q) refl) ∙ says_run b r
run_says false n h =
    let b = 128 + 64 * 0 + n in
    let r : b / 128 % 2 ≡ 1 = omega arith in
    let p : b / 64 % 2 ≡ 0 = omega arith in
    let q : b % 64 ≡ n = omega arith in
    sym (rw (p, q) refl) ∙ says_run b r

-- the states that are alike at the front
alike_at : (s : Bool) (ss : List Bool) (i : ℕ) → i < alike s ss → get_or ss i false ≡ s
unfolding alike
alike_at s [] i h = absurd (omega arith)
alike_at true (true ∷ ts) zero h = refl
alike_at true (true ∷ ts) (suc i) h = alike_at true ts i (omega arith)
alike_at true (false ∷ ts) i h = absurd (omega arith)
alike_at false (true ∷ ts) i h = absurd (omega arith)
alike_at false (false ∷ ts) zero h = refl
alike_at false (false ∷ ts) (suc i) h = alike_at false ts i (omega arith)

run_front : (s : Bool) (ss : List Bool) (i : ℕ) → i < run_of s ss → get_or (s ∷ ss) i false ≡ s
unfolding run_of
run_front s ss zero h = refl
run_front s ss (suc i) h = alike_at s ss i (omega arith)

-- A MAP BYTE

map_says : (m : ℕ) → m < 128 → Map m ≡ says_of m
map_says m h = let e : m ≡ m % 128 = omega arith in ap Map e ∙ says_map m (λ d. absurd (omega arith))

map_bits : (k i : ℕ) (ss : List Bool) → i < k → get_or (bits_of k (map_of (take k ss))) i false ≡ get_or ss i false
unfolding bits_of map_of
map_bits zero i ss h = absurd (omega arith)
map_bits (suc k) zero [] h = refl
map_bits (suc k) (suc i) [] h = rw take-nil at (map_bits k i [] (omega arith))
map_bits (suc k) zero (true ∷ ss) h = let e : (1 + 2 * map_of (take k ss)) % 2 ≡ 1 = omega arith in rw e refl
map_bits (suc k) zero (false ∷ ss) h = let e : (0 + 2 * map_of (take k ss)) % 2 ≡ 0 = omega arith in rw e refl
map_bits (suc k) (suc i) (true ∷ ss) h =
    let e : (1 + 2 * map_of (take k ss)) / 2 ≡ map_of (take k ss) = omega arith in
    rw e (map_bits k i ss (omega arith))
map_bits (suc k) (suc i) (false ∷ ss) h =
    let e : (0 + 2 * map_of (take k ss)) / 2 ≡ map_of (take k ss) = omega arith in
    rw e (map_bits k i ss (omega arith))

-- ANY BYTE: it says as many states as it covers, and they are those of the range

module _ (s : Bool) (ss : List Bool) where
  byte_says_run : 7 < run_of s ss → Run s (run_of s ss) ≡ says_of (byte_of s ss)
  byte_says_run h = run_says s (run_of s ss) (omega (arith, run_at_most s ss)) ∙ ap says_of (byte_run s ss h)

  byte_says_map : run_of s ss ≤ 7 → Map (map_of (take 7 (s ∷ ss))) ≡ says_of (byte_of s ss)
  byte_says_map h = map_says (map_of (take 7 (s ∷ ss))) (map_fits 7 (s ∷ ss)) ∙ ap says_of (byte_map s ss h)

  byte_span : length (states_in (says_of (byte_of s ss))) ≡ covers_of s ss
  byte_span = go (ltb 7 (run_of s ss)) refl
    where
      go : (b : Bool) → ltb 7 (run_of s ss) ≡ b → length (states_in (says_of (byte_of s ss))) ≡ covers_of s ss
      go true e =
          let h = ltb-true 7 (run_of s ss) e in
          sym (span_run (byte_of s ss) s (run_of s ss) (byte_says_run h)) ∙ covers_run s ss h
      go false e =
          let h = ltb-false 7 (run_of s ss) e in
          sym (span_map (byte_of s ss) (map_of (take 7 (s ∷ ss))) (byte_says_map h)) ∙ covers_map s ss h

  byte_state : (i : ℕ) → i < covers_of s ss → get_or (states_in (says_of (byte_of s ss))) i false ≡ get_or (s ∷ ss) i false
  byte_state i l = go (ltb 7 (run_of s ss)) refl
    where
      go : (b : Bool) → ltb 7 (run_of s ss) ≡ b → get_or (states_in (says_of (byte_of s ss))) i false ≡ get_or (s ∷ ss) i false
      go true e =
          let h = ltb-true 7 (run_of s ss) e in
          let n : i < run_of s ss = omega (arith, covers_run s ss h) in
          sym (state_run (byte_of s ss) s (run_of s ss) i (byte_says_run h) n) ∙ sym (run_front s ss i n)
      go false e =
          let h = ltb-false 7 (run_of s ss) e in
          let n : i < 7 = omega (arith, covers_map s ss h) in
          let m = map_of (take 7 (s ∷ ss)) in
          sym (state_map (byte_of s ss) m i (byte_says_map h) n) ∙ sym (bits_at 7 m i n) ∙ map_bits 7 i (s ∷ ss) n

-- BYTE AFTER BYTE

-- a list whose front is the front of another, and whose rest is the rest of it
join : (a r ss : List Bool) (c : ℕ) → length a ≡ c
    → ((i : ℕ) → i < c → get_or a i false ≡ get_or ss i false)
    → ((i : ℕ) → get_or r i false ≡ get_or (drop c ss) i false)
    → (i : ℕ) → get_or (a ++ r) i false ≡ get_or ss i false
join a r ss c l first rest i = go (ltb i c) refl
  where
    go : (b : Bool) → ltb i c ≡ b → get_or (a ++ r) i false ≡ get_or ss i false
    go true e =
        let h = ltb-true i c e in
        get_or-append a r false i (omega arith) ∙ first i h
    go false e =
        let h = ltb-false i c e in
        let p : i ≡ length a + (i - c) = omega arith in
        let q : c + (i - c) ≡ i = omega arith in
        ap (λ (n : ℕ). get_or (a ++ r) n false) p
        ∙ get_or-append-add a r (i - c) false
        ∙ rest (i - c)
        ∙ get_or-drop c ss (i - c) false
        ∙ ap (λ (n : ℕ). get_or ss n false) q

-- for ranges of at most k states
pub states_back : (k : ℕ) (ss : List Bool) → length ss ≤ k → (i : ℕ) → get_or (states_of (vector_of ss)) i false ≡ get_or ss i false
unfolding states_of
states_back zero [] h i = rw vector_none refl
states_back zero (s ∷ ss) h i = absurd (omega arith)
states_back (suc k) [] h i = rw vector_none refl
states_back (suc k) (s ∷ ss) h i =
    let c = covers_of s ss in
    let l : length (drop c (s ∷ ss)) ≤ k = omega (arith, covers_some s ss, length-drop c (s ∷ ss)) in
    rw (vector_more s ss)
    (join (states_in (says_of (byte_of s ss))) (states_of (vector_of (drop c (s ∷ ss)))) (s ∷ ss) c (byte_span s ss) (byte_state s ss) (states_back k (drop c (s ∷ ss)) l) i)

-- and every number of the range is given a state
pub states_reach : (k : ℕ) (ss : List Bool) → length ss ≤ k → length ss ≤ length (states_of (vector_of ss))
unfolding states_of
states_reach zero ss h = omega arith
states_reach (suc k) [] h = omega arith
states_reach (suc k) (s ∷ ss) h =
    let c = covers_of s ss in
    let d = length-drop c (s ∷ ss) in
    let rest = states_reach k (drop c (s ∷ ss)) (omega (arith, covers_some s ss)) in
    let both = length-append (states_in (says_of (byte_of s ss))) (states_of (vector_of (drop c (s ∷ ss)))) in
    rw (vector_more s ss) (omega (arith, byte_span s ss))
