-- One run of bytes laid over a buffer, and runs laid one after the other.
use Rattle.std.specs.Prelude.{ℕ, ◌+◌, ◌≤◌, List, [], ◌∷◌, ◌++◌, ◌≡◌, length}
use Rattle.std.proofs.Common.{sym, ◌∙◌, ap, arith, add-zero, add_assoc, length-append}
use Rattle.common.specs.Put.{put_of, put_none, put_put, put_length, joined}

-- d holds the bytes b from place at on and is then e; the next free place is r
pub record Laid (d : List ℕ) (at : ℕ) (b e : List ℕ) (r : ℕ) : Type 0 where
  pub bytes : e ≡ put_of d at b
  pub next : r ≡ at + length b

pub laid_nothing : (d : List ℕ) (at : ℕ) → Laid d at [] d at
laid_nothing d at = record { bytes = sym (put_none d at); next = sym (add-zero at) }

pub laid_then : {d : List ℕ} {at : ℕ} {a e : List ℕ} {r : ℕ} {b f : List ℕ} {s : ℕ}
    → at + length a ≤ length d → Laid d at a e r → Laid e r b f s → Laid d at (a ++ b) f s
laid_then {d} {at} {a} {e} {r} {b} {f} {s} h x y =
    record {
      bytes = y.bytes ∙ ap (λ (l : List ℕ). put_of l r b) x.bytes ∙ ap (λ (n : ℕ). put_of (put_of d at a) n b) x.next ∙ put_put d at a b h;
      next = y.next ∙ ap (λ (n : ℕ). n + length b) x.next ∙ add_assoc at (length a) (length b) ∙ ap (λ (n : ℕ). at + n) (sym (length-append a b));
    }

-- the same bytes by another name
pub laid_as : {d : List ℕ} {at : ℕ} {a b e : List ℕ} {r : ℕ} → a ≡ b → Laid d at a e r → Laid d at b e r
laid_as {d} {at} {a} {b} {e} {r} q x =
    record { bytes = x.bytes ∙ ap (put_of d at) q; next = x.next ∙ ap (λ (l : List ℕ). at + length l) q }

pub laid_length : {d : List ℕ} {at : ℕ} {b e : List ℕ} {r : ℕ} → at + length b ≤ length d → Laid d at b e r → length e ≡ length d
laid_length {d} {at} {b} {e} {r} h x = ap length x.bytes ∙ put_length d at b h

-- parts laid one after the other
pub data Lays : List ℕ → ℕ → List (List ℕ) → List ℕ → ℕ → Type 0 where
  done : {d : List ℕ} {at : ℕ} → Lays d at [] d at
  next : {d : List ℕ} {at : ℕ} {a e : List ℕ} {r : ℕ} {bs : List (List ℕ)} {f : List ℕ} {s : ℕ}
      → Laid d at a e r → Lays e r bs f s → Lays d at (a ∷ bs) f s

-- are one run
pub lays : {d : List ℕ} {at : ℕ} {bs : List (List ℕ)} {f : List ℕ} {s : ℕ}
    → Lays d at bs f s → at + length (joined bs) ≤ length d → Laid d at (joined bs) f s
lays {d} {at} done h = laid_nothing d at
lays {d} {at} (next {a = a} {e = e} {r = r} {bs = bs} x xs) h =
    let l = length-append a (joined bs) in
    let k : at + length a ≤ length d = omega arith in
    let m = laid_length k x in
    let q = x.next in
    laid_then k x (lays xs (omega arith))
