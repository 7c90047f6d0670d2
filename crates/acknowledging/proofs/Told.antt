-- A judged acknowledgement answers as what it tells, and applied it gives the record that this names, over any window w.
use Rattle.std.specs.Prelude.{Result, Ok, Err, Option, Some, None}
use Prim.Native.Nat.{ℕ, ◌+◌, ◌%◌, ◌≤◌, ◌<◌}
use mathlib.Core.Bool.{Bool, true, false, cond}
use mathlib.Core.List.{List, [], ◌∷◌}
use mathlib.Core.Logic.{⊎_elim}
use mathlib.Core.Path.{◌≡◌, refl, sym, ◌∙◌, ap, subst}
use native.Mathlib.Omega.{arith}
use lib.ListN.{length, replicate, length-replicate}
use lib.Dec.{leb, ltb, eqb}
use borrow.Author.Tests.{le-leb, lt-leb, lt-ltb, le-ltb}
use Rattle.common.specs.Facts.{lt_or_ge}
use Rattle.common.specs.Order.{test, first}
use Rattle.numbers.specs.Widen.{widen_of}
use Rattle.wire.specs.declared.Packet.{Packet}
use Rattle.wire.specs.Frame.{swapped}
use Rattle.wire.specs.Flags.{ack_in, vector_in}
use Rattle.wire.specs.Layout.{sized, flags_of, number_end, vector_end, channel_end, vector_size, values_of, packet_of}
use Rattle.wire.specs.Read.{read_of}
use Rattle.wire.specs.Same.{coded_in}
use Rattle.wire.specs.Round.Found.{Found, found, read_found}
use Rattle.wire.specs.Round.Framing.{swapped_length}
use Rattle.numbers.specs.declared.Widened.{Widened}
use Rattle.numbers.specs.declared.Widened.TheVariants.{At, Below, Unclear}
use Rattle.vector.specs.Says.{states_of, names}
use Rattle.window.specs.Places.{always}
use Rattle.sender.specs.declared.Sender.{Sender}
use Rattle.acknowledging.specs.declared.Named.{Named}
use Rattle.common.specs.declared.Refusal.{Refusal}
use Rattle.common.specs.declared.Refusal.TheVariants.{NeverSent}
use Rattle.common.specs.Answer.{number_of}
use Rattle.sender.specs.Consistent.{consistent_of}
use Rattle.turning.specs.Chosen.{chosen_by}
use Rattle.sender.specs.Acknowledge.{Told, silent, up_to, listed, acknowledging, acknowledged_of, names_unsent, told_answer, told_names, told_of, told_by}
use Rattle.acknowledging.specs.Walk.{walk_of, nothing, judge_up_to, from_walk, judge_listed, applied_of}
use Rattle.sender.specs.Facts.{consistent_facts}
use Rattle.turning.proofs.Turned.{chosen_flag, turned_ext, turned_nothing}
use Rattle.acknowledging.proofs.Naming.{never_in, flags_left, state_at, walk_never, walk_flags}

module _ (w : ℕ) where
  -- what is to be shown of a judged acknowledgement
  pub record Right (s : Sender) (t : Told) (j : Result Named Refusal) : Type 0 where
    pub answer : number_of j ≡ told_answer s t
    pub applied : applied_of w s j ≡ told_of w s t

  chosen_below : (upto n : ℕ) → chosen_by w (replicate w false) upto n ≡ ltb n upto
  unfolding chosen_by
  chosen_below upto n = rw (always w (n % w) false) refl

  up_to_lem : (m n : ℕ) → chosen_by w (replicate w false) (m + 1) n ≡ leb n m
  up_to_lem m n =
      chosen_below (m + 1) n
      ∙ ⊎_elim (λ l. lt-ltb n (m + 1) l ∙ sym (le-leb n m (omega arith))) (λ g. le-ltb n (m + 1) g ∙ sym (lt-leb n m (omega arith))) (lt_or_ge n (m + 1))

  silent_right : (s : Sender) → 0 < w → consistent_of w w s ≡ true → Right s silent (Ok (nothing w))
  unfolding told_answer told_of applied_of
  silent_right s lw h =
      let f = consistent_facts w w s lw (omega arith) h in
      record {
        answer = refl;
        applied = sym (turned_nothing w acknowledging _ s (λ n. chosen_below 0 n ∙ le-ltb n 0 (omega arith)) f.low_stands f.channel_stands);
      }

  -- two tests, each of which refuses with 8
  two_answers : (b c : Bool) (j : Result Named Refusal) → number_of j ≡ 0 → number_of (cond b (Err NeverSent) (cond c (Err NeverSent) j)) ≡ first (test b 8 ∷ test c 8 ∷ [])
  unfolding first
  two_answers true c j e = refl
  two_answers false true j e = refl
  two_answers false false j e = e

  two_applied : (s x : Sender) (b c : Bool) (j : Result Named Refusal) → (c ≡ false → applied_of w s j ≡ x)
      → applied_of w s (cond b (Err NeverSent) (cond c (Err NeverSent) j)) ≡ cond (eqb (first (test b 8 ∷ test c 8 ∷ [])) 0) x s
  unfolding first applied_of
  two_applied s x true c j h = refl
  two_applied s x false true j h = refl
  two_applied s x false false j h = h refl

  up_to_right : (s : Sender) (a : Widened ℕ) → Right s (up_to a) (judge_up_to w s.firstdata.0 s.next.0 a)
  unfolding told_answer told_of told_names applied_of judge_up_to acknowledged_of first
  up_to_right s (Below m) = record { answer = refl; applied = refl }
  up_to_right s Unclear = record { answer = refl; applied = refl }
  up_to_right s (At m) =
      record {
        answer = two_answers (ltb m s.firstdata.0) (leb s.next.0 m) (Ok (record { flags = replicate w false; upto = m + 1 })) refl;
        applied = two_applied s (acknowledged_of w s (told_names (up_to (At m)))) (ltb m s.firstdata.0) (leb s.next.0 m)
            (Ok (record { flags = replicate w false; upto = m + 1 })) (λ e. turned_ext w acknowledging _ _ s (λ n l u. up_to_lem m n));
      }

  -- what is made of a walk, by whether it ends at a number that was never sent
  from_parts : (x : Option (List Bool)) → from_walk w x ≡ cond (never_in x) (Err NeverSent) (Ok (record { flags = flags_left x; upto = 0 }))
  unfolding from_walk
  from_parts None = refl
  from_parts (Some flags) = refl

  -- the flags of a walk that ends choose what the vector names
  walk_chooses : (s : Sender) (m : ℕ) (v : List ℕ) → consistent_of w w s ≡ true → names_unsent (states_of v) m s.next.0 ≡ false → (n : ℕ) → s.low.0 ≤ n → n < s.low.0 + w
      → chosen_by w (flags_left (walk_of w (states_of v) m s.next.0 s.low.0 (replicate w false))) 0 n ≡ names v m n
  unfolding names
  walk_chooses s m v h un n l u =
      chosen_flag w (flags_left (walk_of w (states_of v) m s.next.0 s.low.0 (replicate w false))) n
      ∙ walk_flags w (states_of v) m s.next.0 s.low.0 (replicate w false) (length-replicate w false)
      (consistent_facts w w s (omega arith) (omega arith) h).bounds.room un n l u
      ∙ ap (λ (b : Bool). cond b true (state_at (states_of v) m n)) (always w (n % w) false)

  listed_right : (s : Sender) (a : Widened ℕ) (v : List ℕ) → consistent_of w w s ≡ true → Right s (listed a v) (judge_listed w s.firstdata.0 s.low.0 s.next.0 a v)
  unfolding told_answer told_of told_names applied_of judge_listed from_walk acknowledged_of first
  listed_right s (Below m) v h = record { answer = refl; applied = refl }
  listed_right s Unclear v h = record { answer = refl; applied = refl }
  listed_right s (At m) v h =
      let x = walk_of w (states_of v) m s.next.0 s.low.0 (replicate w false) in
      let e = walk_never w (states_of v) m s.next.0 s.low.0 (replicate w false) in
      let f = from_parts x in
      let j : Result Named Refusal = Ok (record { flags = flags_left x; upto = 0 }) in
      record {
        answer = ap (λ (y : Result Named Refusal). number_of (cond (ltb m s.firstdata.0) (Err NeverSent) y)) f
            ∙ ap (λ (c : Bool). number_of (cond (ltb m s.firstdata.0) (Err NeverSent) (cond c (Err NeverSent) j))) e
            ∙ two_answers (ltb m s.firstdata.0) (names_unsent (states_of v) m s.next.0) j refl;
        applied = ap (λ (y : Result Named Refusal). applied_of w s (cond (ltb m s.firstdata.0) (Err NeverSent) y)) f
            ∙ ap (λ (c : Bool). applied_of w s (cond (ltb m s.firstdata.0) (Err NeverSent) (cond c (Err NeverSent) j))) e
            ∙ two_applied s (acknowledged_of w s (told_names (listed (At m) v))) (ltb m s.firstdata.0) (names_unsent (states_of v) m s.next.0) j
            (λ un. turned_ext w acknowledging _ _ s (walk_chooses s m v h un));
      }

  -- what a packet tells, by its flags
  pub told_ack : (s : Sender) (d : List ℕ) (p : Packet) (r : Bool) (j : Result Named Refusal) → r ≡ ack_in p.values.flags → r ≡ true
      → j ≡ judge_up_to w s.firstdata.0 s.next.0 (widen_of s.next.0 p.values.ack.number) → Right s (told_by s d p) j
  unfolding told_by
  told_ack s d p r j e t q = rw (sym e ∙ t, q) (up_to_right s (widen_of s.next.0 p.values.ack.number))

  pub told_vector : (s : Sender) (d : List ℕ) (p : Packet) (r q : Bool) (j : Result Named Refusal) → consistent_of w w s ≡ true → r ≡ ack_in p.values.flags → r ≡ false
      → q ≡ vector_in p.values.flags → q ≡ true
      → j ≡ judge_listed w s.firstdata.0 s.low.0 s.next.0 (widen_of s.next.0 p.values.vector.base) (coded_in d p) → Right s (told_by s d p) j
  unfolding told_by
  told_vector s d p r q j h e t f u g = rw (sym e ∙ t, sym f ∙ u, g) (listed_right s (widen_of s.next.0 p.values.vector.base) (coded_in d p) h)

  pub told_silent : (s : Sender) (d : List ℕ) (p : Packet) (r q : Bool) (j : Result Named Refusal) → 0 < w → consistent_of w w s ≡ true → r ≡ ack_in p.values.flags → r ≡ false
      → q ≡ vector_in p.values.flags → q ≡ false → j ≡ Ok (nothing w) → Right s (told_by s d p) j
  unfolding told_by
  told_silent s d p r q j lw h e t f u g = rw (sym e ∙ t, sym f ∙ u, g) (silent_right s lw h)

-- where the vector of a packet that was read stands
pub record Vectored (d : List ℕ) (at size : ℕ) : Type 0 where
  pub long : 8 ≤ length d
  pub inside : at + size ≤ length d
  pub short : size ≤ 127

abbrev flags_in : List ℕ → ℕ
flags_in d = flags_of (swapped d)

place_inside : (d : List ℕ) → Found d → vector_in (flags_in d) ≡ true → Vectored d (found d).vector (found d).values.vector.size
unfolding packet_of values_of vector_end channel_end
place_inside d f t =
    let a : number_end (swapped d) (flags_in d) + sized true (vector_size (swapped d) (number_end (swapped d) (flags_in d))) ≡ vector_end (swapped d) (flags_in d) =
    ap (λ (b : Bool). number_end (swapped d) (flags_in d) + sized b (vector_size (swapped d) (number_end (swapped d) (flags_in d)))) (sym t) in
    let b : vector_end (swapped d) (flags_in d) ≤ channel_end (swapped d) (flags_in d) = omega arith in
    rw t (record {
      long = f.long;
      inside = omega (arith, f.inside.payloads, f.inside.ends, swapped_length d);
      short = omega arith;
    })

pub vector_inside : (d : List ℕ) (p : Packet) (q : Bool) → read_of d ≡ Ok (Some p) → q ≡ vector_in p.values.flags → q ≡ true → Vectored d p.vector p.values.vector.size
unfolding packet_of values_of
vector_inside d p q e f t =
    let (x, y) = read_found d p e in
    subst (λ (z : Packet). Vectored d z.vector z.values.vector.size) y
    (place_inside d x (ap (λ (z : Packet). vector_in z.values.flags) y ∙ sym f ∙ t))
