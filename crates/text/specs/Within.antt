-- Text laid over a buffer, with a bound on how much: one part after another, and what a call answers that copies the whole out.
use Rattle.common.specs.declared.Refusal.TheVariants.{Room}
use Rattle.std.specs.Prelude.{ℕ, ◌+◌, ◌^◌, ◌≤◌, ◌<◌, Bool, true, false, List, [], ◌∷◌, ◌++◌, ◌≡◌, take, drop, ltb, Err, Ok}
use Rattle.std.proofs.Common.{append_assoc, append-nil, sym, ◌∙◌, arith, take_at}
use Rattle.std.proofs.Math.Path.{refl, ap}
use borrow.Author.Tests.{ltb-false, lt-ltb, le-ltb}
use Rattle.std.proofs.Math.ListN.{length}
use Rattle.common.specs.Put.{joined, put_of, put_front}
use Rattle.common.specs.Order.{test, first}
use Rattle.common.specs.Answer.{written_of, left_of, room_answer, written_refused}
use Rattle.common.specs.Laid.{Laid, laid_then, laid_length}
use Rattle.text.specs.Ascii.{ascii}
use Rattle.text.specs.Decimal.{decimal_of}
use Rattle.text.specs.Laws.{decimal_length}
use Rattle.text.specs.Lines.{under, comma}

-- b was laid over d from place at on, and has at most k bytes
pub record LaidWithin (k : ℕ) (b d : List ℕ) (at : ℕ) (e : List ℕ) (r : ℕ) : Type 0 where
  pub laid : Laid d at b e r
  pub room : r ≤ at + k

-- bytes that one call put there, at most k of them
pub within : {at r : ℕ} {b d e : List ℕ} (k : ℕ) → length b ≤ k → Laid d at b e r → LaidWithin k b d at e r
within k h l = record { laid = l; room = omega (arith, l.next) }

-- a number of 64 bits has at most 20 digits
pub within_decimal : {at r n : ℕ} {d e : List ℕ} → n < 2 ^ 64 → Laid d at (decimal_of n) e r → LaidWithin 20 (decimal_of n) d at e r
within_decimal {at} {r} {n} h p = within 20 (decimal_length 20 n (omega arith) (omega arith)) p

-- the same bytes by another name
pub within_as : {k at r : ℕ} {b c d e : List ℕ} → b ≡ c → LaidWithin k b d at e r → LaidWithin k c d at e r
within_as p l = rw p at l

-- no more than more
pub within_wider : {k at r : ℕ} {b d e : List ℕ} (m : ℕ) → k ≤ m → LaidWithin k b d at e r → LaidWithin m b d at e r
within_wider m h l = record { laid = l.laid; room = omega arith }

-- what is laid within d's bytes leaves as many as there were
pub within_length : {k at r : ℕ} {b d e : List ℕ} → at + k ≤ length d → LaidWithin k b d at e r → length e ≡ length d
within_length {k} {at} {r} {b} {d} {e} h l = laid_length (omega (arith, l.laid.next)) l.laid

-- one part after another; the second may count on the room that the first left
pub within_then : {k m at r s : ℕ} {a b d e f : List ℕ} → at + (k + m) ≤ length d → LaidWithin k a d at e r
    → (r + m ≤ length e → LaidWithin m b e r f s) → LaidWithin (k + m) (a ++ b) d at f s
within_then {k} {m} {at} {r} {s} {a} {b} {d} {e} {f} h l next =
    let o = within_length (omega arith) l in
    let n = next (omega arith) in
    record { laid = laid_then (omega (arith, l.laid.next)) l.laid n.laid; room = omega arith }

-- four in a row
pub within_four : {i j k l at p q r s : ℕ} {a b c x d e f g h : List ℕ} → at + (i + (j + (k + l))) ≤ length d → LaidWithin i a d at e p
    → LaidWithin j b e p f q → LaidWithin k c f q g r → LaidWithin l x g r h s → LaidWithin (i + (j + (k + l))) (joined (a ∷ b ∷ c ∷ x ∷ [])) d at h s
within_four m a b c x = within_then m a (λ n. within_then n b (λ o. within_then o c (λ u. within_as (sym (append-nil _)) x)))

-- a value between its key and the newline
pub within_line : {i k j at p r s : ℕ} {key v d e f g : List ℕ} → at + (i + (k + j)) ≤ length d → LaidWithin i key d at e p → LaidWithin k v e p f r
    → LaidWithin j (ascii "\n") f r g s → LaidWithin (i + (k + j)) (under key v) d at g s
within_line h a b c = within_then h a (λ n. within_then n b (λ m. c))

-- a number with its comma before what follows
pub within_comma : {k m at r s : ℕ} {b d e f : List ℕ} (n : ℕ) → at + (k + m) ≤ length d → LaidWithin k (decimal_of n ++ ascii ",") d at e r
    → (r + m ≤ length e → LaidWithin m b e r f s) → LaidWithin (k + m) (comma (decimal_of n) b) d at f s
within_comma n h l next = within_as (simp (append_assoc, append-nil)) (within_then h l next)

-- The answer of a call that lays its text b over an array of its own and then copies it out where it fits; n is how many bytes of the array e it took.
module _ {k n : ℕ} {b z e : List ℕ} (l : LaidWithin k b z 0 e n) where
  pub text_end : n ≡ length b
  text_end = omega (arith, l.laid.next)

  -- what was taken is the text
  pub text_front : take n e ≡ b
  text_front = ap (take n) (l.laid.bytes ∙ put_front z b) ∙ take_at b (drop (length b) z) n (sym text_end)

  pub text_taken : n ≡ length (take n e)
  text_taken = text_end ∙ sym (ap length text_front)

  pub text_within : length b ≤ k
  text_within = omega (arith, text_end, l.room)

  pub text_short : (out : List ℕ) → length out < n
      → (Err Room ≡ written_of (room_answer b (length out)) b) × (out ≡ left_of (room_answer b (length out)) b out)
  unfolding room_answer first written_of left_of
  text_short out h =
      let g : length out < length b = omega (arith, text_end) in
      let t = lt-ltb (length out) (length b) g in
      (written_refused Room _ b (rw t refl), rw t refl)

  pub text_fits : (out : List ℕ) {now : List ℕ} → n ≤ length out → now ≡ put_of out 0 (take n e)
      → (Ok n ≡ written_of (room_answer b (length out)) b) × (now ≡ left_of (room_answer b (length out)) b out)
  unfolding room_answer first written_of left_of
  text_fits out h p =
      let g : length b ≤ length out = omega (arith, text_end) in
      let t = le-ltb (length out) (length b) g in
      (rw (t, text_end) refl, rw t (p ∙ ap (put_of out 0) text_front))

-- what such a call wrote fits
by_room : (k room : ℕ) (b : List ℕ) (t : Bool) → ltb room (length b) ≡ t → Ok k ≡ written_of (first (test t 14 ∷ [])) b → k ≤ room
unfolding first written_of
by_room k room b true e w = let z : ◌≡◌ {A = ℕ} 0 1 = cc in absurd (omega arith)
by_room k room b false e w = let l : k ≡ length b = cc in omega (arith, ltb-false room (length b) e)

pub wrote_fits : (k room : ℕ) (b : List ℕ) → Ok k ≡ written_of (room_answer b room) b → k ≤ room
unfolding room_answer
wrote_fits k room b w = by_room k room b (ltb room (length b)) refl w
