-- What stands at a place of a datagram, and how it is read there. The laws speak of the bytes from a place on, so that one payload's law
-- hands the next one its place.
use Rattle.std.specs.Prelude.{ℕ, ◌+◌, Bool, true, false, cond, List, [], ◌++◌, ◌≡◌, refl, length, get_or, take, drop}
use Rattle.std.proofs.Common.{sym, ◌∙◌, ap, subst, arith, add-zero, length-append, get_or-drop, drop-drop, drop_at, take_at}
use Rattle.wire.specs.Frame.{byte_at, word_at, three_at}
use Rattle.wire.specs.Layout.{sized}
use Rattle.wire.specs.Write.{word_bytes, three_bytes, given}

-- From place at on, which lies inside p, p has the bytes q.
pub record Stands (p : List ℕ) (at : ℕ) (q : List ℕ) : Type 0 where
  pub bytes : drop at p ≡ q
  pub inside : at + length q ≡ length p

-- the same bytes, otherwise put together
pub as_well : {p q r : List ℕ} {at : ℕ} → q ≡ r → Stands p at q → Stands p at r
as_well {p} {at = at} e s = subst (λ (l : List ℕ). Stands p at l) e s

-- Numbers are read as they were written.
pub byte_of : {p q : List ℕ} {at : ℕ} (i : ℕ) → Stands p at q → byte_at p (at + i) ≡ byte_at q i
byte_of {p} {at = at} i s = sym (get_or-drop at p i 0) ∙ ap (λ (l : List ℕ). get_or l i 0) s.bytes

pub byte_reads : {p q : List ℕ} {at : ℕ} → Stands p at q → byte_at p at ≡ byte_at q 0
byte_reads {p} {at = at} s = ap (λ (k : ℕ). get_or p k 0) (sym (add-zero at)) ∙ byte_of 0 s

pub word_reads : {p q : List ℕ} {at : ℕ} (n : ℕ) → Stands p at (word_bytes n ++ q) → word_at p at ≡ n
word_reads n s = omega (arith, byte_reads s, byte_of 1 s)

pub three_reads : {p q : List ℕ} {at : ℕ} (n : ℕ) → Stands p at (three_bytes n ++ q) → three_at p at ≡ n
three_reads n s = omega (arith, byte_reads s, byte_of 1 s, byte_of 2 s)

-- What stands behind the first n bytes, and those bytes.
pub behind : {p : List ℕ} {at : ℕ} (b q : List ℕ) (n : ℕ) → n ≡ length b → Stands p at (b ++ q) → Stands p (at + n) q
behind {p} {at} b q n l s =
    record {
      bytes = sym (drop-drop n at p) ∙ ap (drop n) s.bytes ∙ drop_at b q n (sym l);
      inside = omega (arith, s.inside, length-append b q);
    }

pub part_reads : {p : List ℕ} {at : ℕ} (b q : List ℕ) (n : ℕ) → n ≡ length b → Stands p at (b ++ q) → take n (drop at p) ≡ b
part_reads b q n l s = ap (take n) s.bytes ∙ take_at b q n (sym l)

-- A payload that stands only where it is flagged: what is read of it, what stands behind it, and bytes of its own.
pub given_length : (flag : Bool) (b : List ℕ) → length (given flag b) ≡ sized flag (length b)
given_length true b = refl
given_length false b = refl

pub read_given : {A : Type 0} {p : List ℕ} {at : ℕ} (flag : Bool) (z : A) (b q : List ℕ) {x y : A}
    → (flag ≡ true → Stands p at (b ++ q) → x ≡ y) → Stands p at (given flag b ++ q) → cond flag x z ≡ cond flag y z
read_given true z b q f s = f refl s
read_given false z b q f s = refl

pub behind_given : {p : List ℕ} {at : ℕ} (flag : Bool) (b q : List ℕ) (n : ℕ)
    → (flag ≡ true → Stands p at (b ++ q) → n ≡ length b) → Stands p at (given flag b ++ q) → Stands p (at + sized flag n) q
behind_given true b q n f s = behind b q n (f refl s) s
behind_given false b q n f s = behind [] q 0 refl s

pub part_given : {p : List ℕ} {at : ℕ} (flag : Bool) (b q : List ℕ) (n place : ℕ) (part : List ℕ)
    → (flag ≡ true → Stands p at (b ++ q) → take n (drop place p) ≡ part) → Stands p at (given flag b ++ q)
    → take (sized flag n) (drop (sized flag place) p) ≡ given flag part
part_given true b q n place part f s = f refl s
part_given false b q n place part f s = refl
