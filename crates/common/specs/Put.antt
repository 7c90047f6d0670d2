-- Bytes laid over others, and the laws by which one run of bytes after another makes one run.
use Rattle.std.specs.Prelude.{ℕ, ◌+◌, ◌≤◌, ◌<◌, List, [], ◌∷◌, ◌++◌, ◌≡◌, refl, length, take, drop, set}
use Rattle.std.proofs.Common.{append_assoc, append-nil, sym, ◌∙◌, ap, arith, add-zero, zero-add, suc-add, add-one, length-set, length-append, length-take, length-drop, take-append-drop, drop-drop, length-take-le, take_at}
use Rattle.std.proofs.lemmas.List.{set_split, set-append_left}
use Rattle.std.proofs.Math.Seq.{drop-append-add}

-- d with the bytes of b from place at on; all else is d's
unfoldable pub put_of : List ℕ → ℕ → List ℕ → List ℕ
put_of d at b = take at d ++ b ++ drop (at + length b) d

pub put_length : (d : List ℕ) (at : ℕ) (b : List ℕ) → at + length b ≤ length d → length (put_of d at b) ≡ length d
unfolding put_of
put_length d at b h = simp (length-append, length-take, length-drop) (omega arith)

pub put_none : (d : List ℕ) (at : ℕ) → put_of d at [] ≡ d
unfolding put_of
put_none d at = simp (add-zero, append-nil, take-append-drop)

pub put_one : (d : List ℕ) (at x : ℕ) → at < length d → set d at x ≡ put_of d at (x ∷ [])
unfolding put_of
put_one d at x h = set_split d at x h ∙ simp (append_assoc, add-one)

-- one run after another
pub put_put : (d : List ℕ) (at : ℕ) (a b : List ℕ) → at + length a ≤ length d
    → put_of (put_of d at a) (at + length a) b ≡ put_of d at (a ++ b)
unfolding put_of
put_put d at a b h =
    let l : length (take at d) ≡ at = length-take-le at d (omega arith) in
    let m : length (take at d ++ a) ≡ at + length a = length-append (take at d) a ∙ ap (λ (n : ℕ). n + length a) l in
    let t : take (at + length a) (take at d ++ a ++ drop (at + length a) d) ≡ take at d ++ a =
    take_at (take at d ++ a) (drop (at + length a) d) (at + length a) m in
    let k : at + length a + length b ≡ length (take at d ++ a) + length b = ap (λ (n : ℕ). n + length b) (sym m) in
    let j : at + length a + length b ≡ at + length (a ++ b) = omega (arith, length-append a b) in
    let u : drop (at + length a + length b) (take at d ++ a ++ drop (at + length a) d) ≡ drop (at + length (a ++ b)) d =
    ap (λ (n : ℕ). drop n (take at d ++ a ++ drop (at + length a) d)) k
    ∙ drop-append-add (take at d ++ a) (drop (at + length a) d) (length b)
    ∙ drop-drop (length b) (at + length a) d
    ∙ ap (λ (n : ℕ). drop n d) j in
    rw (t, u) (ap (λ (x : List ℕ). x ++ drop (at + length (a ++ b)) d) (append_assoc (take at d) a b))

-- from the first byte on
pub put_front : (d b : List ℕ) → put_of d 0 b ≡ b ++ drop (length b) d
unfolding put_of
put_front d b = let e : 0 + length b ≡ length b = omega arith in rw e refl

-- parts, one after the other
abbrev pub joined : List (List ℕ) → List ℕ
joined [] = []
joined (b ∷ bs) = b ++ joined bs

-- a byte set within what was put
pub put_set : (d : List ℕ) (at : ℕ) (b : List ℕ) (k y : ℕ) → k < length b → at + length b ≤ length d
    → set (put_of d at b) (at + k) y ≡ put_of d at (set b k y)
unfolding put_of
put_set d at b k y h r =
    let l : length (take at d) ≡ at = length-take-le at d (omega arith) in
    let m : at + k < length (take at d ++ b) = omega (arith, length-append (take at d) b) in
    let e : set (take at d ++ b) (at + k) y ≡ take at d ++ set b k y =
    ap (λ (n : ℕ). set (take at d ++ b) (n + k) y) (sym l) ∙ set_append_right (take at d) b k y in
    set-append_left (take at d ++ b) (drop (at + length b) d) (at + k) y m
    ∙ ap (λ (x : List ℕ). x ++ drop (at + length b) d) e
    ∙ ap (λ (n : ℕ). take at d ++ set b k y ++ drop (at + n) d) (sym (length-set b k y))
  where
    set_append_right : (xs ys : List ℕ) (k y : ℕ) → set (xs ++ ys) (length xs + k) y ≡ xs ++ set ys k y
    set_append_right [] ys k y = ap (λ (n : ℕ). set ys n y) (zero-add k)
    set_append_right (x ∷ xs) ys k y = ap (λ (n : ℕ). set (x ∷ (xs ++ ys)) n y) (suc-add (length xs) k) ∙ ap (λ (r : List ℕ). x ∷ r) (set_append_right xs ys k y)
