-- Calls one after another, on parts of lent bytes that stand one after another.
use Rattle.std.specs.Prelude.{ℕ, zero, suc, ◌+◌, ◌-◌, ◌≤◌, max, min, List, ◌≡◌, refl, length, get_or, set, take, drop}
use Rattle.std.proofs.Common.{◌∙◌, ap, arith, add-one}

-- Where part i begins: the first at 0, each other where the one before it ends. That is as `ends` says, but not before it begins, nor past the bytes.
unfoldable pub start_of : List ℕ → List ℕ → ℕ → ℕ
start_of bytes ends zero = 0
start_of bytes ends (suc i) = max (start_of bytes ends i) (min (get_or ends i 0) (length bytes))

-- part i
unfoldable pub part_at : List ℕ → List ℕ → ℕ → List ℕ
part_at bytes ends i = take (start_of bytes ends (i + 1) - start_of bytes ends i) (drop (start_of bytes ends i) bytes)

-- what a call makes of the state it finds and of part i; what a call makes of the state alone
abbrev pub on_part : {A B : Type 0} → (A → List ℕ → B) → List ℕ → List ℕ → ℕ → A → B
on_part call bytes ends i a = call a (part_at bytes ends i)

abbrev pub each_time : {A B : Type 0} → (A → B) → ℕ → A → B
each_time call i a = call a

-- the state after n calls
unfoldable pub after : {A : Type 0} → (ℕ → A → A) → A → ℕ → A
after step a zero = a
after step a (suc i) = step i (after step a i)

-- a list with the answers to n calls from its first place on
unfoldable pub answered : {A : Type 0} → (ℕ → A → A) → (ℕ → A → ℕ) → A → List ℕ → ℕ → List ℕ
answered step answer a l zero = l
answered step answer a l (suc i) = set (answered step answer a l i) i (answer i (after step a i))

-- LAWS

pub start_none : (bytes ends : List ℕ) → 0 ≡ start_of bytes ends 0
unfolding start_of
start_none bytes ends = refl

pub start_more : (bytes ends : List ℕ) (i from end : ℕ) → from ≡ start_of bytes ends i → end ≡ max from (min (get_or ends i 0) (length bytes))
    → end ≡ start_of bytes ends (i + 1)
unfolding start_of
start_more bytes ends i from end e f = rw (add-one i, f, e) refl

pub start_within : (bytes ends : List ℕ) (i : ℕ) → start_of bytes ends i ≤ length bytes
unfolding start_of
start_within bytes ends zero = omega arith
start_within bytes ends (suc i) = omega (arith, start_within bytes ends i)

pub part_is : (bytes ends : List ℕ) (i from end : ℕ) → from ≡ start_of bytes ends i → end ≡ start_of bytes ends (i + 1)
    → take (end - from) (drop from bytes) ≡ part_at bytes ends i
unfolding part_at
part_is bytes ends i from end e f = rw (e, f) refl

pub after_none : {A : Type 0} (step : ℕ → A → A) (a : A) → a ≡ after step a 0
unfolding after
after_none step a = refl

pub after_more : {A : Type 0} (step : ℕ → A → A) (a q x : A) (i : ℕ) → q ≡ after step a i → x ≡ step i q → x ≡ after step a (i + 1)
unfolding after
after_more step a q x i e f = f ∙ ap (step i) e ∙ rw (add-one i) refl

pub answered_none : {A : Type 0} (step : ℕ → A → A) (answer : ℕ → A → ℕ) (a : A) (l : List ℕ) → l ≡ answered step answer a l 0
unfolding answered
answered_none step answer a l = refl

pub answered_more : {A : Type 0} (step : ℕ → A → A) (answer : ℕ → A → ℕ) (a q : A) (l m : List ℕ) (i x : ℕ) → q ≡ after step a i
    → m ≡ answered step answer a l i → x ≡ answer i q → set m i x ≡ answered step answer a l (i + 1)
unfolding answered
answered_more step answer a q l m i x e f g =
    ap (λ (k : List ℕ). set k i x) f ∙ ap (set (answered step answer a l i) i) (g ∙ ap (answer i) e) ∙ rw (add-one i) refl
