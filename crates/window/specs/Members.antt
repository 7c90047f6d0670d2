-- Numbers looked at only as to which came and how high the highest is, so that neither their order nor repeats matter.
use Rattle.std.specs.Prelude.{ℕ, ◌≤◌, max, Bool, true, false, ◌||◌, ◌≡◌, refl, eqb}
use mathlib.Core.List.{List, [], ◌∷◌, map, Memᴰ}
use Rattle.std.proofs.Common.{⊎_elim, sym, ◌∙◌, ap, subst, arith, eqb-true, eq-eqb, ne_eqb}
use Rattle.std.proofs.Math.Path.{fun_ext}
use Rattle.std.proofs.lemmas.Bool.{eqb-false}
use Rattle.common.specs.Facts.{bool, clash, same_bool, or_left, or_right, or_cases}

-- a is one of the list
abbrev pub In : {A : Type 0} → A → List A → Type 0
In a l = Memᴰ a l

pub in_map : {A B : Type 0} (f : A → B) (a : A) {l : List A} → In a l → In (f a) (map f l)
in_map f a (Memᴰ.head e) = Memᴰ.head (ap f e)
in_map f a (Memᴰ.tail m) = Memᴰ.tail (in_map f a m)

pub from_map : {A B : Type 0} (f : A → B) (b : B) (l : List A) → In b (map f l) → (a : A) × In a l × (b ≡ f a)
from_map f b [] i = elim i [ ]
from_map f b (x ∷ xs) (Memᴰ.head e) = (x, Memᴰ.head refl, e)
from_map f b (x ∷ xs) (Memᴰ.tail m) = let (a, i, e) = from_map f b xs m in (a, Memᴰ.tail i, e)

pub map_in : {A B : Type 0} (f : A → B) (l k : List A) → ((a : A) → In a l → In a k) → (b : B) → In b (map f l) → In b (map f k)
map_in {B = B} f l k h b m = let (a, i, e) = from_map f b l m in subst (λ (x : B). In x (map f k)) (sym e) (in_map f a (h a i))

pub map_map : {A B C : Type 0} (f : A → B) (g : B → C) (l : List A) → map g (map f l) ≡ map (λ a. g (f a)) l
map_map f g [] = refl
map_map {C = C} f g (x ∷ xs) = ap (λ (r : List C). g (f x) ∷ r) (map_map f g xs)

-- number n came, and those that has says
unfoldable pub with_one : ℕ → (ℕ → Bool) → ℕ → Bool
with_one n has m = eqb m n || has m

pub one_at : (n : ℕ) (has : ℕ → Bool) (m : ℕ) → m ≡ n → with_one n has m ≡ true
unfolding with_one
one_at n has m e = or_left (eqb m n) (has m) (eq-eqb m n e)

pub one_off : (n : ℕ) (has : ℕ → Bool) (m : ℕ) → (m ≡ n → ⊥) → with_one n has m ≡ has m
unfolding with_one
one_off n has m ne = rw (ne_eqb m n ne)

pub one_keeps : (n : ℕ) (has : ℕ → Bool) (m : ℕ) → has m ≡ true → with_one n has m ≡ true
unfolding with_one
one_keeps n has m h = or_right (eqb m n) (has m) h

-- A number that came comes again.
pub one_again : (n : ℕ) (has : ℕ → Bool) → has n ≡ true → has ≡ with_one n has
one_again n has h =
    fun_ext λ m. ⊎_elim
    (λ t. let e = eqb-true m n t in ap has e ∙ h ∙ sym (one_at n has m e))
    (λ t. sym (one_off n has m (eqb-false m n t)))
    (bool (eqb m n))

-- What holds of n and of all that came holds of all with n.
pub one_or : (n : ℕ) (has : ℕ → Bool) (P : ℕ → Type 0) → P n → ((m : ℕ) → has m ≡ true → P m) → (m : ℕ) → with_one n has m ≡ true → P m
one_or n has P pn h m q =
    ⊎_elim
    (λ e. subst P (sym (eqb-true m n e)) pn)
    (λ e. h m (sym (one_off n has m (eqb-false m n e)) ∙ q))
    (bool (eqb m n))

-- is n one of the list?
unfoldable pub among : List ℕ → ℕ → Bool
among [] n = false
among (m ∷ ms) n = eqb n m || among ms n

in_among : (n : ℕ) {l : List ℕ} → In n l → among l n ≡ true
unfolding among
in_among n (Memᴰ.head {x = x} {xs = xs} e) = or_left (eqb n x) (among xs n) (eq-eqb n x e)
in_among n (Memᴰ.tail {x = x} {xs = xs} m) = or_right (eqb n x) (among xs n) (in_among n m)

pub among_in : (n : ℕ) (l : List ℕ) → among l n ≡ true → In n l
unfolding among
among_in n [] h = clash false h refl
among_in n (m ∷ ms) h =
    ⊎_elim (λ e. Memᴰ.head (eqb-true n m e)) (λ t. Memᴰ.tail (among_in n ms t)) (or_cases (eqb n m) (among ms n) h)

pub among_same : (l k : List ℕ) → ((n : ℕ) → In n l → In n k) → ((n : ℕ) → In n k → In n l) → (n : ℕ) → among l n ≡ among k n
among_same l k f g n =
    same_bool (among l n) (among k n) (λ t. in_among n (f n (among_in n l t))) (λ t. in_among n (g n (among_in n k t)))

-- those that has says, and one after the other those of the list
unfoldable pub came : (ℕ → Bool) → List ℕ → ℕ → Bool
came has [] = has
came has (n ∷ ns) = came (with_one n has) ns

shift : (a b c : Bool) → (a || b || c) ≡ (b || (a || c))
shift true true c = refl
shift true false c = refl
shift false true c = refl
shift false false c = refl

pub came_among : (has : ℕ → Bool) (ns : List ℕ) (n : ℕ) → came has ns n ≡ (has n || among ns n)
unfolding came among with_one
came_among has [] n = keep (has n)
  where
    keep : (a : Bool) → a ≡ (a || false)
    keep true = refl
    keep false = refl
came_among has (m ∷ ms) n = came_among (with_one m has) ms n ∙ shift (eqb n m) (has n) (among ms n)

-- the highest of e and the numbers of the list
unfoldable pub top : ℕ → List ℕ → ℕ
top e [] = e
top e (n ∷ ns) = top (max e n) ns

top_least : (e : ℕ) (ns : List ℕ) → e ≤ top e ns
unfolding top
top_least e [] = omega arith
top_least e (n ∷ ns) = omega (arith, top_least (max e n) ns)

top_in : (n e : ℕ) {ns : List ℕ} → In n ns → n ≤ top e ns
unfolding top
top_in n e (Memᴰ.head {x = x} {xs = xs} q) = omega (arith, top_least (max e x) xs)
top_in n e (Memᴰ.tail {x = x} m) = top_in n (max e x) m

top_most : (e : ℕ) (ns : List ℕ) (x : ℕ) → e ≤ x → ((n : ℕ) → In n ns → n ≤ x) → top e ns ≤ x
unfolding top
top_most e [] x h k = h
top_most e (n ∷ ns) x h k =
    let kn = k n (Memᴰ.head refl) in top_most (max e n) ns x (omega arith) (λ m i. k m (Memᴰ.tail i))

pub top_same : (e : ℕ) (l k : List ℕ) → ((n : ℕ) → In n l → In n k) → ((n : ℕ) → In n k → In n l) → top e l ≡ top e k
top_same e l k f g =
    omega (
      arith,
      top_most e l (top e k) (top_least e k) (λ n i. top_in n e (f n i)),
      top_most e k (top e l) (top_least e l) (λ n i. top_in n e (g n i)),
    )
