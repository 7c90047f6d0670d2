-- Judging a write, a law for each way out, and what an accepted one tells.
use Prim.Native.Nat.{ℕ, ◌≤◌, ◌<◌}
use mathlib.Core.Bool.{Bool, true, false, cond}
use mathlib.Core.List.{List, [], ◌++◌}
use mathlib.Core.Path.{◌≡◌, refl, sym, ◌∙◌, ap}
use native.Mathlib.Omega.{arith}
use lib.ListN.{length}
use lib.Dec.{eqb, leb, ltb}
use borrow.Author.Tests.{not-false, eqb-false, ltb-false, lt-ltb, le-ltb, ne_eqb, eqb-true}
use Rattle.common.specs.Order.{Test, first, first_here, first_skip, first_none, first_pass, first_over}
use Rattle.wire.specs.declared.Values.{Values}
use Rattle.std.specs.Prelude.{Ok, Err}
use Rattle.common.specs.declared.Refusal.{Refusal}
use Rattle.common.specs.declared.Refusal.TheVariants.{TooWide, Room}
use Rattle.common.specs.Answer.{answered_of, written_of, left_of, settled_err, settled_ok, settled_refused, settled_accepted}
use Rattle.wire.specs.Flags.{ack_in, vector_in, outside, both, six_of}
use Rattle.wire.specs.Write.{ack_wide, vector_wide, value_tests, size_tests, packet_bytes, datagram_of, write_answer}
use Rattle.writer.specs.Steps.{judged_of}

-- what the values' tests tell
pub record ValuesFit (v : Values) (n m : ℕ) : Type 0 where
  pub others : outside v.flags ≡ false
  pub acks : both (ack_in v.flags) (vector_in v.flags) ≡ false
  pub window : leb 16 v.logwindow ≡ false
  pub ack : both (ack_in v.flags) (ack_wide v.ack n) ≡ false
  pub vector : both (vector_in v.flags) (vector_wide v.vector m) ≡ false

values_past : (v : Values) (n m : ℕ) (ts : List Test) → 0 ≡ first (value_tests v n m ++ ts) → ValuesFit v n m × (0 ≡ first ts)
values_past v n m ts h =
    let (a, h1) = first_pass (outside v.flags) 4 _ (omega arith) h in
    let (b, h2) = first_pass (both (ack_in v.flags) (vector_in v.flags)) 5 _ (omega arith) h1 in
    let (c, h3) = first_pass (leb 16 v.logwindow) 10 _ (omega arith) h2 in
    let (d, h4) = first_pass (both (ack_in v.flags) (ack_wide v.ack n)) 10 _ (omega arith) h3 in
    let (e, h5) = first_pass (both (vector_in v.flags) (vector_wide v.vector m)) 10 ts (omega arith) h4 in
    (record { others = a; acks = b; window = c; ack = d; vector = e }, h5)

pub values_fit : (v : Values) (n m : ℕ) → 0 ≡ first (value_tests v n m) → ValuesFit v n m
values_fit v n m h = (values_past v n m [] h).0

-- what an accepted write tells
pub record Accepted (v : Values) (a x b : List ℕ) (room : ℕ) : Type 0 where
  pub fit : ValuesFit v (length a) (length x)
  pub short : length (datagram_of v a x b) ≤ 1232
  pub roomy : length (datagram_of v a x b) ≤ room

pub accepted : (v : Values) (a x b : List ℕ) (room : ℕ) → 0 ≡ write_answer v a x b room → Accepted v a x b room
unfolding write_answer
accepted v a x b room h =
    let (f, h1) = values_past v (length a) (length x) (size_tests (length (datagram_of v a x b)) room) h in
    let (s, h2) = first_pass (ltb 1232 (length (datagram_of v a x b))) 10 _ (omega arith) h1 in
    let (r, h3) = first_pass (ltb room (length (datagram_of v a x b))) 14 [] (omega arith) h2 in
    record { fit = f; short = ltb-false 1232 _ s; roomy = ltb-false room _ r }

pub few_flags : (f : ℕ) → outside f ≡ false → f < 4096
unfolding outside six_of
few_flags f h = let e = eqb-true f (six_of f) (not-false (eqb f (six_of f)) h) in omega arith

module _ (v : Values) (a x b : List ℕ) (room : ℕ) where
  -- past the values' tests the datagram's length decides
  answer_past : ValuesFit v (length a) (length x) → first (size_tests (length (datagram_of v a x b)) room) ≡ write_answer v a x b room
  unfolding write_answer
  answer_past f =
      first_skip _ _ _ f.vector ∙ first_skip _ _ _ f.ack ∙ first_skip _ _ _ f.window ∙ first_skip _ _ _ f.acks ∙ first_skip _ _ _ f.others

  pub judged_values : (r : Refusal) → Err r ≡ answered_of (first (value_tests v (length a) (length x))) → Err r ≡ judged_of v a x b room
  unfolding judged_of answered_of write_answer
  judged_values r e =
      let (h, q) = settled_err r _ tt e in
      let w = first_over (value_tests v (length a) (length x)) (size_tests (length (datagram_of v a x b)) room) _ refl h in
      rw (← w, ne_eqb (first (value_tests v (length a) (length x))) 0 h, q) refl

  pub judged_long : 0 ≡ first (value_tests v (length a) (length x)) → 1232 < length (datagram_of v a x b) → Err TooWide ≡ judged_of v a x b room
  unfolding judged_of
  judged_long e h =
      settled_refused TooWide _ _ (first_here _ _ _ (lt-ltb 1232 (length (datagram_of v a x b)) h) ∙ answer_past (values_fit v (length a) (length x) e))

  pub judged_room : 0 ≡ first (value_tests v (length a) (length x)) → length (datagram_of v a x b) ≤ 1232 → room < length (datagram_of v a x b)
      → Err Room ≡ judged_of v a x b room
  unfolding judged_of
  judged_room e l h =
      settled_refused Room _ _
      (first_here _ _ _ (lt-ltb room (length (datagram_of v a x b)) h) ∙ first_skip _ _ _ (le-ltb 1232 (length (datagram_of v a x b)) l)
      ∙ answer_past (values_fit v (length a) (length x) e))

  pub judged_fits : (k : ℕ) → k ≡ length (packet_bytes v a x b) → 0 ≡ first (value_tests v (length a) (length x))
      → length (datagram_of v a x b) ≤ 1232 → length (datagram_of v a x b) ≤ room → Ok k ≡ judged_of v a x b room
  unfolding judged_of
  judged_fits k w e l h =
      let z : 0 ≡ write_answer v a x b room =
      first_none ∙ first_skip _ 14 _ (le-ltb room (length (datagram_of v a x b)) h) ∙ first_skip _ 10 _ (le-ltb 1232 (length (datagram_of v a x b)) l)
      ∙ answer_past (values_fit v (length a) (length x) e) in
      rw (w) (settled_accepted _ _ z)

  -- and what each answer tells
  pub refused_tells : (r : Refusal) (out : List ℕ) → Err r ≡ judged_of v a x b room
      → (Err r ≡ written_of (write_answer v a x b room) (datagram_of v a x b)) × (out ≡ left_of (write_answer v a x b room) (datagram_of v a x b) out)
  unfolding judged_of written_of left_of
  refused_tells r out e =
      let (h, q) = settled_err r (write_answer v a x b room) _ e in
      (rw (ne_eqb _ 0 h, q) refl, rw (ne_eqb _ 0 h) refl)

  pub fits_tells : (k : ℕ) → Ok k ≡ judged_of v a x b room → (0 ≡ write_answer v a x b room) × (k ≡ length (packet_bytes v a x b))
  unfolding judged_of
  fits_tells k e = settled_ok k (write_answer v a x b room) _ e
