-- The other way round: what stands at a place of a list of bytes is spelled by what is read there, and goes on behind it.
use Rattle.std.specs.Prelude.{ℕ, suc, ◌+◌, ◌*◌, ◌%◌, ◌/◌, ◌≤◌, ◌<◌, Bool, true, false, cond, List, [], ◌∷◌, ◌++◌, ◌≡◌, refl, length, take, drop, eqb}
use Rattle.std.proofs.Common.{append_assoc, append-nil, sym, ◌∙◌, ap, arith, add-zero, take-append-drop, drop-cons, drop-drop, eqb-true}
use Rattle.std.proofs.lemmas.Bool.{eqb-false}
use Rattle.wire.specs.Frame.{byte_at, word_at, three_at}
use Rattle.wire.specs.Layout.{sized, ack_at, ack_size, delay_at, timed_at, vector_at, vector_size, stamp_size}
use Rattle.wire.specs.Write.{word_bytes, three_bytes, given, ack_bytes, delay_bytes, stamp_bytes, vector_bytes}
use Rattle.wire.specs.Same.{Bytes}

-- The same behind b.
pub after : (b : List ℕ) {x y : List ℕ} → x ≡ y → b ++ x ≡ b ++ y
after b e = ap (λ (l : List ℕ). b ++ l) e

-- A byte of two parts.
low_four : (b : ℕ) → b ≡ b % 16 + 16 * (b / 16)
low_four b = omega arith

low_seven : (b : ℕ) → b < 256 → b ≡ b % 128 + 128 * cond (eqb (b / 128 % 2) 1) 1 0
low_seven b h = go (eqb (b / 128 % 2) 1) refl
  where
    go : (t : Bool) → eqb (b / 128 % 2) 1 ≡ t → b ≡ b % 128 + 128 * cond t 1 0
    go true e = omega (arith, eqb-true (b / 128 % 2) 1 e)
    go false e = let n : b / 128 % 2 ≡ 1 → ⊥ = eqb-false (b / 128 % 2) 1 e in omega (arith, n)

module _ (p : List ℕ) (small : Bytes p) where
  -- a place, and the place behind what is read there
  pub byte_spelled : (at next : ℕ) → next ≡ at + 1 → next ≤ length p → drop at p ≡ byte_at p at ∷ drop next p
  byte_spelled at next e h =
      let l : at < length p = omega arith in
      let n : suc at ≡ next = omega arith in
      drop-cons p at 0 l ∙ ap (λ (k : ℕ). byte_at p at ∷ drop k p) n

  pub word_spelled : (at next : ℕ) → next ≡ at + 2 → next ≤ length p → drop at p ≡ word_bytes (word_at p at) ++ drop next p
  word_spelled at next e h =
      let a : byte_at p at ≡ word_at p at % 256 = omega (arith, small at) in
      let b : byte_at p (at + 1) ≡ word_at p at / 256 = omega (arith, small at) in
      byte_spelled at (at + 1) refl (omega arith)
      ∙ after (byte_at p at ∷ []) (byte_spelled (at + 1) next (omega arith) h)
      ∙ (λ i. a i ∷ b i ∷ drop next p)

  three_spelled : (at next : ℕ) → next ≡ at + 3 → next ≤ length p → drop at p ≡ three_bytes (three_at p at) ++ drop next p
  three_spelled at next e h =
      let a : byte_at p at ≡ three_at p at % 256 = omega (arith, small at) in
      let m : three_at p at / 256 ≡ byte_at p (at + 1) + 256 * byte_at p (at + 2) = omega (arith, small at) in
      let b : byte_at p (at + 1) ≡ three_at p at / 256 % 256 = rw m (omega (arith, small (at + 1))) in
      let c : byte_at p (at + 2) ≡ three_at p at / 65536 = omega (arith, small at, small (at + 1)) in
      byte_spelled at (at + 1) refl (omega arith)
      ∙ after (byte_at p at ∷ []) (byte_spelled (at + 1) (at + 2) (omega arith) (omega arith)
      ∙ after (byte_at p (at + 1) ∷ []) (byte_spelled (at + 2) next (omega arith) h))
      ∙ (λ i. a i ∷ b i ∷ c i ∷ drop next p)

  pub part_spelled : (at n next : ℕ) → next ≡ at + n → drop at p ≡ take n (drop at p) ++ drop next p
  part_spelled at n next e =
      sym (take-append-drop n (drop at p)) ∙ after (take n (drop at p)) (drop-drop n at p ∙ ap (λ (k : ℕ). drop k p) (sym e))

  -- as the last of parts that are put together
  last_spelled : (at n next : ℕ) → next ≡ at + n → drop at p ≡ take n (drop at p) ++ [] ++ drop next p
  last_spelled at n next e =
      part_spelled at n next e ∙ ap (λ (l : List ℕ). l ++ drop next p) (sym (append-nil (take n (drop at p))))

  -- the payloads of several fields
  pub ack_spelled : (at : ℕ) → at + ack_size p at ≤ length p
      → drop at p ≡ ack_bytes (ack_at p at) (take (byte_at p (at + 6) % 16) (drop (at + 7) p)) ++ drop (at + ack_size p at) p
  ack_spelled at h =
      let count = low_four (byte_at p (at + 6)) in
      let additions = last_spelled (at + 7) (byte_at p (at + 6) % 16) (at + ack_size p at) (omega arith) in
      word_spelled at (at + 2) refl (omega arith)
      ∙ after (word_bytes (word_at p at))
      (three_spelled (at + 2) (at + 5) (omega arith) (omega arith)
      ∙ after (three_bytes (three_at p (at + 2)))
      (byte_spelled (at + 5) (at + 6) (omega arith) (omega arith)
      ∙ after (byte_at p (at + 5) ∷ []) (byte_spelled (at + 6) (at + 7) (omega arith) (omega arith) ∙ (λ i. count i ∷ additions i))))

  pub delay_spelled : (at : ℕ) → at + 3 ≤ length p → drop at p ≡ delay_bytes (delay_at p at) ++ drop (at + 3) p
  delay_spelled at h =
      byte_spelled at (at + 1) refl (omega arith) ∙ after (byte_at p at ∷ []) (word_spelled (at + 1) (at + 3) (omega arith) h)

  stamp_spelled : (at : ℕ) (timed : Bool) → at + 3 + stamp_size timed ≤ length p
      → drop (at + 3) p
      ≡ given timed (three_bytes (sized timed (three_at p (at + 3))) ++ (sized timed (byte_at p (at + 6)) ∷ [])) ++ drop (at + 3 + stamp_size timed) p
  stamp_spelled at true h =
      three_spelled (at + 3) (at + 6) (omega arith) (omega arith)
      ∙ after (three_bytes (three_at p (at + 3))) (byte_spelled (at + 6) (at + 3 + 4) (omega arith) h)
  stamp_spelled at false h = ap (λ (k : ℕ). drop k p) (sym (add-zero (at + 3)))

  pub vector_spelled : (at : ℕ) → at + vector_size p at ≤ length p
      → drop at p
      ≡ vector_bytes (vector_at p at) (take (byte_at p (at + 2) % 128) (drop (at + 3 + stamp_size (timed_at p at)) p)) ++ drop (at + vector_size p at) p
  vector_spelled at h =
      let size = low_seven (byte_at p (at + 2)) (small (at + 2)) in
      let stamp = stamp_spelled at (timed_at p at) (omega arith) in
      let coded = last_spelled (at + 3 + stamp_size (timed_at p at)) (byte_at p (at + 2) % 128) (at + vector_size p at) (omega arith) in
      let b = stamp_bytes (vector_at p at) in
      let behind = stamp ∙ after b coded ∙ sym (append_assoc b _ (drop (at + vector_size p at) p)) in
      word_spelled at (at + 2) refl (omega arith)
      ∙ after (word_bytes (word_at p at)) (byte_spelled (at + 2) (at + 3) (omega arith) (omega arith) ∙ (λ i. size i ∷ behind i))

  -- a payload where it is flagged; b t are its bytes as the values say them where the flag is t
  pub given_spelled : (at : ℕ) (flag : Bool) (b : Bool → List ℕ) (n : ℕ)
      → (at + n ≤ length p → drop at p ≡ b true ++ drop (at + n) p) → at + sized flag n ≤ length p
      → drop at p ≡ given flag (b flag) ++ drop (at + sized flag n) p
  given_spelled at true b n e h = e h
  given_spelled at false b n e h = ap (λ (k : ℕ). drop k p) (sym (add-zero at))
