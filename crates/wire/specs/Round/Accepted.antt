-- What an accepted write tells of its values.
use Rattle.std.specs.Prelude.{ℕ, ◌≤◌, ◌^◌, Bool, true, false, cond, List, ◌≡◌, refl, length, take, eqb, leb, Err, Ok}
use Rattle.std.proofs.Common.{sym, ◌∙◌, ap, arith, take_at, leb-false, ltb-false, eqb-true}
use Rattle.std.proofs.lemmas.Bool.{not-false}
use Rattle.common.specs.Put.{put_of, put_front}
use Rattle.common.specs.Answer.{refusal_of, written_of, left_of}
use Rattle.wire.specs.declared.Ack.{Ack}
use Rattle.wire.specs.declared.Vector.{Vector}
use Rattle.wire.specs.declared.Values.{Values}
use Rattle.wire.specs.Flags.{both}
use Rattle.wire.specs.Write.{ack_wide, vector_wide, datagram_of, write_tests, write_answer}
use Rattle.wire.specs.Round.Tests.{Passed, all_pass, neither, not_both}
use Rattle.wire.specs.Round.Payloads.{AckFits, VectorFits}
use Rattle.wire.specs.Round.Chain.{Fits}

-- "A value wider than its field", or "a count that is not its bytes' length", is refused.
ack_fits_lem : (a : Ack) (additions : List ℕ) → ack_wide a (length additions) ≡ false → AckFits a additions
ack_fits_lem a additions e =
    let (time, more) = neither (leb (2 ^ 24) a.time) _ e in
    let (count, others) = neither (leb 16 a.count) _ more in
    let (scale, counts) = neither (leb 16 a.scale) _ others in
    record { narrow = leb-false 16 a.count count; counts = eqb-true a.count (length additions) (not-false _ counts) }

vector_fits_lem : (x : Vector) (vector : List ℕ) → vector_wide x (length vector) ≡ false → VectorFits x vector
vector_fits_lem x vector e =
    let (size, others) = neither (leb 128 x.size) _ e in
    let (time, counts) = neither (both x.timed (leb (2 ^ 24) x.time)) _ others in
    record { narrow = leb-false 128 x.size size; counts = eqb-true x.size (length vector) (not-false _ counts) }

module _ (v : Values) (additions vector body : List ℕ) (room : ℕ) (e : 0 ≡ write_answer v additions vector body room) where
  passed : Passed (write_tests v additions vector body room)
  unfolding write_answer
  passed = all_pass (write_tests v additions vector body room) (omega arith) e

  pub accepted_fits : Fits v additions vector
  accepted_fits =
      record {
        inside = passed.0;
        single = passed.1.0;
        ack_fits = λ h. ack_fits_lem v.ack additions (not_both _ _ passed.1.1.1.0 h);
        vector_fits = λ h. vector_fits_lem v.vector vector (not_both _ _ passed.1.1.1.1.0 h);
      }

  pub accepted_short : length (datagram_of v additions vector body) ≤ 1232
  accepted_short = ltb-false 1232 _ passed.1.1.1.1.1.0

-- An answer that reports bytes accepts, and the bytes that it reports are those that were to be written.
pub wrote : (n : ℕ) (b out : List ℕ) (k : ℕ) → written_of n b ≡ Ok k → (0 ≡ n) × (take k (left_of n b out) ≡ b)
unfolding written_of left_of
wrote n b out k e = go (eqb n 0) refl e
  where
    go : (t : Bool) → eqb n 0 ≡ t → cond t (Ok (length b)) (Err (refusal_of n)) ≡ Ok k → (0 ≡ n) × (take k (cond t (put_of out 0 b) out) ≡ b)
    go true t w =
        let l : length b ≡ k = cc in
        (sym (eqb-true n 0 t), ap (take k) (put_front out b) ∙ take_at b _ k l)
    go false t w = absurd (let z : ◌≡◌ {A = ℕ} 0 1 = cc in omega arith)
