-- The states from base on, and the vector written of them.
use Rattle.common.specs.declared.Refusal.{Refusal}
use Rattle.std.specs.Prelude.{Err, Ok, Result}
use Prim.Native.Nat.{ℕ, zero, suc, ◌+◌, ◌-◌, ◌%◌, ◌≤◌, ◌<◌}
use mathlib.Core.Bool.{Bool, true}
use mathlib.Core.List.{List, [], ◌∷◌, ◌++◌}
use mathlib.Core.Path.{◌≡◌, refl, sym, ◌∙◌, ap}
use native.Mathlib.Nat.{add-zero}
use native.Mathlib.Numerals.{add-one}
use native.Mathlib.Omega.{arith}
use lib.Dec.{eqb}
use lib.ListN.{length, get_or, take, set, drop}
use lib.Seq.{take-suc-set, take_at}
use Rattle.common.specs.Put.{put_of, put_front, put_length}
use Rattle.common.specs.Answer.{written_of, left_of}
use Rattle.vector.specs.Rule.{vector_of, answer_of}
use Rattle.vector.specs.Laws.{vector_short, write_done}
use Rattle.receiver.specs.AcknowledgeLaws.{states_length}
use Rattle.receiver.specs.declared.Receiver.{Receiver}
use Rattle.receiver.specs.Record.{is_marked, mark_at}
use Rattle.receiver.specs.Consistent.{consistent_of}
use Rattle.receiver.specs.Acknowledge.{states_from, states_of}
use Rattle.receiver.specs.Facts.{consistent_facts}

-- one number more
states_more : (w : ℕ) (r : Receiver) (n k : ℕ) → states_from w r n (suc k) ≡ states_from w r n k ++ (is_marked (mark_at w r (n + k)) ∷ [])
unfolding states_from
states_more w r n zero = let e : n ≡ n + 0 = sym (add-zero n) in ap (λ (m : ℕ). is_marked (mark_at w r m) ∷ []) e
states_more w r n (suc k) =
    let e : n + 1 + k ≡ n + suc k = omega arith in
    ap (λ (l : List Bool). is_marked (mark_at w r n) ∷ l)
    (states_more w r (n + 1) k ∙ ap (λ (m : ℕ). states_from w r (n + 1) k ++ (is_marked (mark_at w r m) ∷ [])) e)

pub states_none : (w : ℕ) (r : Receiver) (n : ℕ) → [] ≡ states_from w r n 0
unfolding states_from
states_none w r n = refl

pub states_step : (w : ℕ) (r : Receiver) (n i at : ℕ) (s : List Bool) → i < length s → take i s ≡ states_from w r n i → at ≡ (n + i) % w
    → take (i + 1) (set s i (eqb (get_or r.marks at 0) 1)) ≡ states_from w r n (i + 1)
states_step w r n i at s l h a =
    rw (add-one, a) (take-suc-set s i (is_marked (mark_at w r (n + i))) l ∙ ap (λ (x : List Bool). x ++ (is_marked (mark_at w r (n + i)) ∷ [])) h ∙ sym (states_more w r n i))

pub states_done : (w : ℕ) (r : Receiver) (b n i : ℕ) (s : List Bool) → i ≡ n → take i s ≡ states_from w r b i → take n s ≡ states_from w r b n
states_done w r b n i s e h = rw e at h

states_are : (w : ℕ) (r : Receiver) (ss : List Bool) → ss ≡ states_from w r r.base.0 (r.end.0 - r.base.0) → ss ≡ states_of w r
unfolding states_of
states_are w r ss e = e

-- the first k bytes of these are the record's vector
pub record Coded (w : ℕ) (r : Receiver) (coded : List ℕ) (k : ℕ) : Type 0 where
  pub fits : k ≤ w
  pub within : k ≤ length coded
  pub size : k ≡ length (vector_of (states_of w r))
  pub same : take k coded ≡ vector_of (states_of w r)

-- The vector of a consistent record's states, which are at most w, fits w bytes: ss are the states, out the bytes before and coded those after,
-- and x is what writing it answered.
module _ (w : ℕ) (r : Receiver) (h : consistent_of w w r ≡ true) (ss : List Bool) (states : ss ≡ states_from w r r.base.0 (r.end.0 - r.base.0))
    (x : Result ℕ Refusal) (out coded : List ℕ) (room : w ≤ length out) (answer : x ≡ written_of (answer_of ss (length out)) (vector_of ss))
    (bytes : coded ≡ left_of (answer_of ss (length out)) (vector_of ss) out) where
  few : length ss ≤ w
  few = let e = ap length states ∙ states_length w r r.base.0 (r.end.0 - r.base.0) in omega (arith, e, (consistent_facts w w r h).end_near)

  short : length (vector_of ss) ≤ w
  short = omega (arith, vector_short ss, few)

  done : (Ok (length (vector_of ss)) ≡ written_of (answer_of ss (length out)) (vector_of ss)) × (put_of out 0 (vector_of ss) ≡ left_of (answer_of ss (length out)) (vector_of ss) out)
  done = write_done ss out (omega (arith, room, short))

  wrote : x ≡ Ok (length (vector_of ss))
  wrote = answer ∙ sym done.0

  pub vector_never : {A : Type 0} (n : Refusal) → x ≡ Err n → A
  vector_never n e = let q = wrote in absurd (let z : ◌≡◌ {A = ℕ} 0 1 = cc in omega arith)

  pub vector_coded : (k : ℕ) → x ≡ Ok k → Coded w r coded k
  vector_coded k e =
      let q = wrote in
      let n : k ≡ length (vector_of ss) = cc in
      let l : length (put_of out 0 (vector_of ss)) ≡ length out = put_length out 0 (vector_of ss) (omega (arith, room, short)) in
      let m : length coded ≡ length out = ap length (bytes ∙ sym done.1) ∙ l in
      record {
        fits = omega (arith, short);
        within = omega (arith, short, room);
        size = n ∙ ap (λ (l : List Bool). length (vector_of l)) (states_are w r ss states);
        same =
            ap (λ (n : ℕ). take n coded) n
            ∙ ap (take (length (vector_of ss))) (bytes ∙ sym done.1 ∙ put_front out (vector_of ss))
            ∙ take_at (vector_of ss) (drop (length (vector_of ss)) out) (length (vector_of ss)) refl
            ∙ ap vector_of (states_are w r ss states);
      }
