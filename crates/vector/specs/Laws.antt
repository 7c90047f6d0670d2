-- What the definitions of Says and Rule give at each way out of the functions that meet them, and bounds for their callers.
use Rattle.common.specs.declared.Refusal.TheVariants.{Room}
use Rattle.std.specs.Prelude.{ℕ, zero, suc, ◌+◌, ◌*◌, ◌/◌, ◌%◌, ◌^◌, ◌≤◌, ◌<◌, Bool, true, false, cond, not, List, [], ◌∷◌, ◌≡◌, refl, length, get_or, take, drop, replicate, eqb, ltb, Err, Ok}
use Rattle.std.specs.Bool.{beq}
use Rattle.std.proofs.Common.{sym, ◌∙◌, ap, add-one, arith, length-drop, drop-cons, shr-shr, shr_lt, pow_pos, lt-ltb, le-ltb, ltb-true, eq-eqb, ne_eqb}
use Rattle.std.proofs.Math.Nat.{pow-succ'}
use Rattle.std.proofs.lemmas.List.{length-replicate, get_or-replicate}
use Rattle.std.proofs.Math.ListN.{get_or-eq_default}
use Rattle.std.proofs.Math.Seq.{take-nil}
use Rattle.std.proofs.Math.Arith.{lt-one}
use Rattle.std.specs.Int.Count.{ones, ones_step}
use Rattle.common.specs.Order.{test, first, first_here, first_skip, first_none}
use Rattle.common.specs.Put.{put_of}
use Rattle.common.specs.Answer.{written_of, left_of, room_answer, written_refused}
use Rattle.vector.specs.declared.Saying.{Saying}
use Rattle.vector.specs.declared.Saying.TheVariants.{Map, Run}
use Rattle.vector.specs.Says.{bit_of, says_of, bits_of, states_in, count_of, received_in}
use Rattle.vector.specs.Rule.{one, alike, run_of, map_of, byte_of, covers_of, bytes_by, vector_of, answer_of}

-- THE BITS OF A MAP

bits_length : (k m : ℕ) → length (bits_of k m) ≡ k
unfolding bits_of
bits_length zero m = refl
bits_length (suc k) m = ap suc (bits_length k (m / 2))

pub bits_at : (k m i : ℕ) → i < k → get_or (bits_of k m) i false ≡ bit_of m i
unfolding bits_of
bits_at zero m i h = absurd (omega arith)
bits_at (suc k) m zero h = let e : m ≡ m / 1 = omega arith in ap (λ (n : ℕ). eqb (n % 2) 1) e
bits_at (suc k) m (suc i) h =
    let e : 1 + i ≡ suc i = omega arith in
    bits_at k (m / 2) i (omega arith) ∙ ap (λ (n : ℕ). eqb (n % 2) 1) (shr-shr m 1 i ∙ ap (λ (j : ℕ). m / 2 ^ j) e)

-- WHAT A BYTE SAYS

pub says_run : (b : ℕ) → b / 128 % 2 ≡ 1 → Run (bit_of b 6) (b % 64) ≡ says_of b
unfolding says_of
says_run b e = rw (eq-eqb (b / 128 % 2) 1 e) refl

pub says_map : (b : ℕ) → (b / 128 % 2 ≡ 1 → ⊥) → Map (b % 128) ≡ says_of b
unfolding says_of
says_map b e = rw (ne_eqb (b / 128 % 2) 1 e) refl

pub span_map : (b m : ℕ) → Map m ≡ says_of b → 7 ≡ length (states_in (says_of b))
unfolding states_in
span_map b m e = rw (← e) (sym (bits_length 7 m))

pub span_run : (b : ℕ) (s : Bool) (n : ℕ) → Run s n ≡ says_of b → n ≡ length (states_in (says_of b))
unfolding states_in
span_run b s n e = rw (← e) (sym (length-replicate n s))

pub state_map : (b m i : ℕ) → Map m ≡ says_of b → i < 7 → bit_of m i ≡ get_or (states_in (says_of b)) i false
unfolding states_in
state_map b m i e h = rw (← e) (sym (bits_at 7 m i h))

pub state_run : (b : ℕ) (s : Bool) (n i : ℕ) → Run s n ≡ says_of b → i < n → s ≡ get_or (states_in (says_of b)) i false
unfolding states_in
state_run b s n i e h = rw (← e) (sym (get_or-replicate n i s false h))

-- past a byte's span nothing is received
pub state_past : (b n i : ℕ) → n ≡ length (states_in (says_of b)) → n ≤ i → false ≡ get_or (states_in (says_of b)) i false
state_past b n i e h = sym (get_or-eq_default (states_in (says_of b)) false (omega arith))

-- HOW MANY A BYTE NAMES

count_all : (n : ℕ) → count_of (replicate n true) ≡ n
unfolding count_of
count_all zero = refl
count_all (suc n) = ap suc (count_all n)

count_none : (n : ℕ) → count_of (replicate n false) ≡ 0
unfolding count_of
count_none zero = refl
count_none (suc n) = count_none n

pub received_run : (b : ℕ) (s : Bool) (n : ℕ) → Run s n ≡ says_of b → s ≡ true → n ≡ received_in b
unfolding received_in states_in
received_run b s n e t = rw (← e, t) (sym (count_all n))

pub missing_run : (b : ℕ) (s : Bool) (n : ℕ) → Run s n ≡ says_of b → s ≡ false → 0 ≡ received_in b
unfolding received_in states_in
missing_run b s n e t = rw (← e, t) (sym (count_none n))

-- a number below 2 ^ k has as many ones as its k bits have received states
ones_count : (k m : ℕ) → m < 2 ^ k → ones m ≡ count_of (bits_of k m)
unfolding ones bits_of count_of
ones_count zero m h = ap ones (lt-one h)
ones_count (suc k) m h =
    ones_step m ∙ ap (λ (n : ℕ). m % 2 + n) (ones_count k (m / 2) (shr_lt k 1 (rw add-one h))) ∙ digit (m % 2) _ (omega arith)
  where
    digit : (d n : ℕ) → d < 2 → d + n ≡ cond (eqb d 1) (suc n) n
    digit zero n h = omega arith
    digit (suc zero) n h = omega arith
    digit (suc (suc d)) n h = absurd (omega arith)

-- a map has seven bits
map_seven : (b m : ℕ) → Map m ≡ says_of b → m < 128
unfolding says_of
map_seven b m e = go (bit_of b 7) (ap seven e)
  where
    seven : Saying → ℕ
    seven (Map n) = n
    seven (Run s n) = 0

    go : (t : Bool) → m ≡ seven (cond t (Run (bit_of b 6) (b % 64)) (Map (b % 128))) → m < 128
    go true e = omega arith
    go false e = omega arith

pub received_map : (b m : ℕ) → Map m ≡ says_of b → ones m ≡ received_in b
unfolding received_in states_in
received_map b m e = rw (← e) (ones_count 7 m (map_seven b m e))

-- THE RUN FROM A PLACE

pub front : (ss : List Bool) (i : ℕ) → i < length ss → drop i ss ≡ get_or ss i false ∷ drop (i + 1) ss
front ss i h = rw (add-one, drop-cons ss i false h) refl

pub alike_same : (s t : Bool) (ts : List Bool) → not (beq t s) ≡ false → alike s (t ∷ ts) ≡ suc (alike s ts)
unfolding alike
alike_same true true ts e = refl
alike_same true false ts e = let z : ◌≡◌ {A = ℕ} 0 1 = cc in absurd (omega arith)
alike_same false true ts e = let z : ◌≡◌ {A = ℕ} 0 1 = cc in absurd (omega arith)
alike_same false false ts e = refl

pub alike_other : (s t : Bool) (ts : List Bool) → not (beq t s) ≡ true → alike s (t ∷ ts) ≡ 0
unfolding alike
alike_other true true ts e = let z : ◌≡◌ {A = ℕ} 0 1 = cc in absurd (omega arith)
alike_other true false ts e = refl
alike_other false true ts e = refl
alike_other false false ts e = let z : ◌≡◌ {A = ℕ} 0 1 = cc in absurd (omega arith)

pub alike_none : (s : Bool) → alike s [] ≡ 0
unfolding alike
alike_none s = refl

pub alike_within : (s : Bool) (ss : List Bool) → alike s ss ≤ length ss
unfolding alike
alike_within s [] = omega arith
alike_within s (t ∷ ts) = let h = alike_within s ts in go (cond s t (not t)) h
  where
    go : (b : Bool) → alike s ts ≤ length ts → cond b (suc (alike s ts)) 0 ≤ suc (length ts)
    go true h = omega arith
    go false h = omega arith

pub run_at_most : (s : Bool) (ss : List Bool) → run_of s ss ≤ 63
unfolding run_of
run_at_most s ss = omega arith

-- A MAP

-- a map of one state more from place a on; past the range there are states 0
pub map_step : (ss : List Bool) (a j : ℕ) → map_of (take (suc j) (drop a ss)) ≡ one (get_or ss a false) + 2 * map_of (take j (drop (suc a) ss))
unfolding map_of
map_step [] zero j = ap (λ (l : List Bool). 0 + 2 * map_of l) (sym (take-nil j))
map_step [] (suc a) j = ap (λ (l : List Bool). 0 + 2 * map_of l) (sym (take-nil j))
map_step (s ∷ ss) zero j = refl
map_step (s ∷ ss) (suc a) j = map_step ss a j

pub map_fits : (j : ℕ) (ss : List Bool) → map_of (take j ss) < 2 ^ j
unfolding map_of
map_fits zero ss = omega arith
map_fits (suc j) [] = pow_pos (suc j)
map_fits (suc j) (true ∷ ss) = let h = map_fits j ss in omega (arith, pow-succ' 2 j)
map_fits (suc j) (false ∷ ss) = let h = map_fits j ss in omega (arith, pow-succ' 2 j)

-- A BYTE, AND HOW MANY NUMBERS IT COVERS

pub byte_map : (s : Bool) (ss : List Bool) → run_of s ss ≤ 7 → map_of (take 7 (s ∷ ss)) ≡ byte_of s ss
unfolding byte_of
byte_map s ss h = rw (le-ltb 7 (run_of s ss) h) refl

pub byte_run : (s : Bool) (ss : List Bool) → 7 < run_of s ss → 128 + 64 * one s + run_of s ss ≡ byte_of s ss
unfolding byte_of
byte_run s ss h = rw (lt-ltb 7 (run_of s ss) h) refl

pub covers_map : (s : Bool) (ss : List Bool) → run_of s ss ≤ 7 → 7 ≡ covers_of s ss
unfolding covers_of
covers_map s ss h = rw (le-ltb 7 (run_of s ss) h) refl

pub covers_run : (s : Bool) (ss : List Bool) → 7 < run_of s ss → run_of s ss ≡ covers_of s ss
unfolding covers_of
covers_run s ss h = rw (lt-ltb 7 (run_of s ss) h) refl

-- THE BYTES ONE BY ONE

pub covers_some : (s : Bool) (ss : List Bool) → 7 ≤ covers_of s ss
unfolding covers_of
covers_some s ss = go (ltb 7 (run_of s ss)) refl
  where
    go : (b : Bool) → ltb 7 (run_of s ss) ≡ b → 7 ≤ cond b (run_of s ss) 7
    go true e = let h = ltb-true 7 (run_of s ss) e in omega arith
    go false e = omega arith

-- as many bytes as states suffice
enough : (f g : ℕ) (ss : List Bool) → length ss ≤ f → length ss ≤ g → bytes_by f ss ≡ bytes_by g ss
unfolding bytes_by
enough zero zero ss hf hg = refl
enough zero (suc g) [] hf hg = refl
enough zero (suc g) (s ∷ ss) hf hg = absurd (omega arith)
enough (suc f) zero [] hf hg = refl
enough (suc f) zero (s ∷ ss) hf hg = absurd (omega arith)
enough (suc f) (suc g) [] hf hg = refl
enough (suc f) (suc g) (s ∷ ss) hf hg =
    let c = covers_some s ss in
    let l = length-drop (covers_of s ss) (s ∷ ss) in
    ap (λ (r : List ℕ). byte_of s ss ∷ r) (enough f g (drop (covers_of s ss) (s ∷ ss)) (omega arith) (omega arith))

-- the rule with no bound: a byte, and the vector for what it does not cover
pub vector_none : vector_of [] ≡ []
unfolding vector_of bytes_by
vector_none = refl

pub vector_more : (s : Bool) (ss : List Bool) → vector_of (s ∷ ss) ≡ byte_of s ss ∷ vector_of (drop (covers_of s ss) (s ∷ ss))
unfolding vector_of bytes_by
vector_more s ss =
    let c = covers_some s ss in
    let l = length-drop (covers_of s ss) (s ∷ ss) in
    ap (λ (r : List ℕ). byte_of s ss ∷ r) (enough (length ss) (length (drop (covers_of s ss) (s ∷ ss))) (drop (covers_of s ss) (s ∷ ss)) (omega arith) (omega arith))

-- one byte for every seven states, and one for what is left
pub vector_sevenths : (ss : List Bool) → 7 * length (vector_of ss) ≤ length ss + 6
unfolding vector_of bytes_by
vector_sevenths ss = go (length ss) ss
  where
    go : (k : ℕ) (ts : List Bool) → 7 * length (bytes_by k ts) ≤ length ts + 6
    go zero ts = omega arith
    go (suc k) [] = omega arith
    go (suc k) (t ∷ ts) =
        let c = covers_some t ts in
        let l = length-drop (covers_of t ts) (t ∷ ts) in
        let h = go k (drop (covers_of t ts) (t ∷ ts)) in
        omega arith

pub vector_short : (ss : List Bool) → length (vector_of ss) ≤ length ss
vector_short ss = let h = vector_sevenths ss in omega arith

-- THE ANSWER

pub write_refused : (ss : List Bool) (out : List ℕ) → length out < length (vector_of ss)
    → (Err Room ≡ written_of (answer_of ss (length out)) (vector_of ss)) × (out ≡ left_of (answer_of ss (length out)) (vector_of ss) out)
unfolding answer_of room_answer written_of left_of
write_refused ss out h =
    let e : 14 ≡ first (test (ltb (length out) (length (vector_of ss))) 14 ∷ []) = first_here _ _ _ (lt-ltb _ _ h) in
    (written_refused Room _ _ e, rw (← e) refl)

pub write_done : (ss : List Bool) (out : List ℕ) → length (vector_of ss) ≤ length out
    → (Ok (length (vector_of ss)) ≡ written_of (answer_of ss (length out)) (vector_of ss)) × (put_of out 0 (vector_of ss) ≡ left_of (answer_of ss (length out)) (vector_of ss) out)
unfolding answer_of room_answer written_of left_of
write_done ss out h =
    let e : 0 ≡ first (test (ltb (length out) (length (vector_of ss))) 14 ∷ []) = first_none ∙ first_skip _ _ _ (le-ltb _ _ h) in
    (rw (← e) refl, rw (← e) refl)
