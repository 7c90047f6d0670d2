-- What an owner has in a list: view T l, "the numbers and sessions of L whose token is T". And the list as T sees it, `hidden T l`, where every place that is not T's is
-- blank: for lists that are equally long the two say the same.
use Prim.Native.Nat.{ℕ, zero, suc, ◌+◌, ◌<◌}
use Rattle.std.specs.Prelude.{Bool, ◌≡◌, length, get_or, set}
use Rattle.std.proofs.Math.Bool.{true, false, cond}
use mathlib.Core.List.{List, [], ◌∷◌}
use Rattle.std.proofs.Math.Path.{refl, sym}
use Rattle.std.proofs.Common.{◌∙◌, ap, eq-eqb, ne_eqb}
use Rattle.std.proofs.Math.Dec.{eqb}
use native.Mathlib.Omega.{arith}
use Rattle.session.specs.declared.Session.{Session}
use Rattle.session.specs.Place.{blank, blank_token}

-- a session with its number
pub record Numbered : Type 0 where
  pub number : ℕ
  pub session : Session

abbrev pub numbered : ℕ → Session → Numbered
numbered k s = record { number = k; session = s }

-- T's, where the first place has number k
unfoldable pub view_from : ℕ → ℕ → List Session → List Numbered
view_from k T [] = []
view_from k T (x ∷ xs) = cond (eqb x.token T) (numbered k x ∷ view_from (suc k) T xs) (view_from (suc k) T xs)

abbrev pub view : ℕ → List Session → List Numbered
view T l = view_from 1 T l

-- a place as T sees it, and the list
unfoldable pub seen : ℕ → Session → Session
seen T s = cond (eqb s.token T) s blank

unfoldable pub hidden : ℕ → List Session → List Session
hidden T [] = []
hidden T (x ∷ xs) = seen T x ∷ hidden T xs

-- ---- a place

pub seen_own : (T : ℕ) (s : Session) → s.token ≡ T → seen T s ≡ s
unfolding seen
seen_own T s e = rw (eq-eqb s.token T e) refl

pub seen_other : (T : ℕ) (s : Session) → (s.token ≡ T → ⊥) → seen T s ≡ blank
unfolding seen
seen_other T s h = rw (ne_eqb s.token T h) refl

pub seen_blank : (T : ℕ) → seen T blank ≡ blank
unfolding seen
seen_blank T = go (eqb blank.token T)
  where
    go : (b : Bool) → cond b blank blank ≡ blank
    go true = refl
    go false = refl

-- ---- the list

pub hidden_length : (T : ℕ) (l : List Session) → length (hidden T l) ≡ length l
unfolding hidden
hidden_length T [] = refl
hidden_length T (x ∷ xs) = ap suc (hidden_length T xs)

pub hidden_get : (T : ℕ) (l : List Session) (i : ℕ) → get_or (hidden T l) i blank ≡ seen T (get_or l i blank)
unfolding hidden
hidden_get T [] i = sym (seen_blank T)
hidden_get T (x ∷ xs) zero = refl
hidden_get T (x ∷ xs) (suc i) = hidden_get T xs i

pub hidden_set : (T : ℕ) (l : List Session) (i : ℕ) (s : Session) → hidden T (set l i s) ≡ set (hidden T l) i (seen T s)
unfolding hidden
hidden_set T [] i s = refl
hidden_set T (x ∷ xs) zero s = refl
hidden_set T (x ∷ xs) (suc i) s = ap (λ (t : List Session). seen T x ∷ t) (hidden_set T xs i s)

-- lists that are equally long and agree at every place
same_list : (l m : List Session) → length l ≡ length m → ((i : ℕ) → get_or l i blank ≡ get_or m i blank) → l ≡ m
same_list [] [] n h = refl
same_list [] (y ∷ ys) n h = absurd (omega arith)
same_list (x ∷ xs) [] n h = absurd (omega arith)
same_list (x ∷ xs) (y ∷ ys) n h = let t : xs ≡ ys = same_list xs ys (omega arith) (λ i. h (suc i)) in let z : x ≡ y = h zero in cc

-- the session of a number in a view, blank where there is none
unfoldable look_in : List Numbered → ℕ → Session
look_in [] n = blank
look_in (e ∷ v) n = cond (eqb e.number n) e.session (look_in v n)

module _ (T : ℕ) (h : T ≡ 0 → ⊥) where
  pub blank_other : blank.token ≡ T → ⊥
  blank_other e = h (sym e ∙ blank_token)

  pub seen_again : (s : Session) → seen T (seen T s) ≡ seen T s
  unfolding seen
  seen_again s = go (eqb s.token T) refl
    where
      go : (b : Bool) → eqb s.token T ≡ b → cond (eqb (cond b s blank).token T) (cond b s blank) blank ≡ cond b s blank
      go true e = rw e refl
      go false e = rw (ne_eqb blank.token T blank_other) refl

  pub hidden_again : (l : List Session) → hidden T (hidden T l) ≡ hidden T l
  unfolding hidden
  hidden_again [] = refl
  hidden_again (x ∷ xs) = let p : seen T (seen T x) ≡ seen T x = seen_again x in let q : hidden T (hidden T xs) ≡ hidden T xs = hidden_again xs in cc

  -- the view is that of the list as T sees it
  pub view_hidden : (k : ℕ) (l : List Session) → view_from k T (hidden T l) ≡ view_from k T l
  unfolding hidden view_from seen
  view_hidden k [] = refl
  view_hidden k (x ∷ xs) = go (eqb x.token T) refl (view_hidden (suc k) xs)
    where
      go : (b : Bool) → eqb x.token T ≡ b → {v w : List Numbered} → v ≡ w
          → cond (eqb (cond b x blank).token T) (numbered k (cond b x blank) ∷ v) v ≡ cond b (numbered k x ∷ w) w
      go true e q = rw (e, q) refl
      go false e q = rw (ne_eqb blank.token T blank_other) q

  -- a number below the first is in no view
  look_below : (k n : ℕ) (l : List Session) → n < k → look_in (view_from k T l) n ≡ blank
  unfolding view_from look_in
  look_below k n [] u = refl
  look_below k n (x ∷ xs) u = go (eqb x.token T) (view_from (suc k) T xs) (look_below (suc k) n xs (omega arith))
    where
      go : (b : Bool) (v : List Numbered) → look_in v n ≡ blank → look_in (cond b (numbered k x ∷ v) v) n ≡ blank
      go true v q = rw (ne_eqb k n (λ z. omega arith)) q
      go false v q = q

  -- what the view says of a number is what T sees at its place
  look_at : (k : ℕ) (l : List Session) (i : ℕ) → look_in (view_from k T l) (k + i) ≡ seen T (get_or l i blank)
  unfolding view_from look_in seen
  look_at k [] i = sym (seen_blank T)
  look_at k (x ∷ xs) zero = go (eqb x.token T) (view_from (suc k) T xs) (look_below (suc k) (k + 0) xs (omega arith))
    where
      go : (b : Bool) (v : List Numbered) → look_in v (k + 0) ≡ blank → look_in (cond b (numbered k x ∷ v) v) (k + 0) ≡ cond b x blank
      go true v q = rw (eq-eqb k (k + 0) (omega arith)) refl
      go false v q = q
  look_at k (x ∷ xs) (suc i) = go (eqb x.token T) (view_from (suc k) T xs) (ap (λ (n : ℕ). look_in (view_from (suc k) T xs) n) (e k i) ∙ look_at (suc k) xs i)
    where
      e : (k i : ℕ) → k + suc i ≡ suc k + i
      e k i = omega arith

      go : (b : Bool) (v : List Numbered) → look_in v (k + suc i) ≡ seen T (get_or xs i blank) → look_in (cond b (numbered k x ∷ v) v) (k + suc i) ≡ seen T (get_or xs i blank)
      go true v q = rw (ne_eqb k (k + suc i) (λ z. omega arith)) q
      go false v q = q

  -- so equal views of equally long lists are equal lists to T, and the other way
  pub view_sees : (l m : List Session) → length l ≡ length m → view T l ≡ view T m → hidden T l ≡ hidden T m
  view_sees l m n e =
      same_list (hidden T l) (hidden T m) (hidden_length T l ∙ n ∙ sym (hidden_length T m))
      (λ i. hidden_get T l i ∙ sym (look_at 1 l i) ∙ ap (λ (v : List Numbered). look_in v (1 + i)) e ∙ look_at 1 m i ∙ sym (hidden_get T m i))

  pub sees_view : (l m : List Session) → hidden T l ≡ hidden T m → view T l ≡ view T m
  sees_view l m e = sym (view_hidden 1 l) ∙ ap (view T) e ∙ view_hidden 1 m
