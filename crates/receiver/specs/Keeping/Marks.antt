-- The receiver's data numbers as facts on which were seen: what a packet and a waiver do to them, and what a record then is.
use Prim.Native.Nat.{ℕ, ◌+◌, ◌-◌, ◌≤◌, ◌<◌, max}
use Rattle.std.specs.Prelude.{Bool, true, false, cond, ◌≡◌, refl, eqb}
use Rattle.std.proofs.Common.{⊎_elim, sym, ◌∙◌, ap, arith, lt-ltb, le-ltb, le-leb, eqb-true}
use Rattle.std.proofs.Math.Path.{subst, fun_ext}
use Rattle.std.proofs.lemmas.Bool.{lt-leb, eqb-false}
use Rattle.common.specs.Facts.{lt_or_ge, bool, clash, not_so}
use Rattle.numbers.specs.Full.{highest, past_highest}
use Rattle.window.specs.Window.{Win, here, lifted, slid}
use Rattle.window.specs.Sliding.{Shape, Weak, Inv, updated, updated_at, updated_off, lift_weak, put_weak, below_weak, slid_inv}
use Rattle.window.specs.Members.{with_one, one_at, one_off, one_keeps, one_or}
use Rattle.receiver.specs.declared.Receiver.{Receiver}
use Rattle.receiver.specs.Record.{is_marked, marks_of, mark_at}
use Rattle.receiver.specs.Packet.{marked}
use Rattle.receiver.specs.Determined.{inside, marked_in}
use Rattle.receiver.specs.Facts.{Facts}

abbrev pub mark_for : (ℕ → Bool) → ℕ → ℕ
mark_for seen n = cond (seen n) 1 0

-- b is the base at the outset, all below lo is waived, e is the end
pub record Marks (w cap b lo e : ℕ) (seen : ℕ → Bool) (m : Win ℕ) : Type 0 where
  pub inv : Inv 0 w cap is_marked lo (mark_for seen) m
  pub low : b ≤ lo
  pub near : e ≤ lo + w
  pub under : (n : ℕ) → seen n ≡ true → n < e
  pub last : b < e → seen (e - 1) ≡ true
  pub low_range : lo ≤ past_highest
  pub end_range : e ≤ past_highest

pub mark_shape : (w cap : ℕ) → 0 < w → w ≤ cap → Shape 0 w cap is_marked
mark_shape w cap pos fits = record { some = pos; fits = fits; stops = refl }

pub is_mark : (b : Bool) → is_marked (cond b 1 0) ≡ b
is_mark true = refl
is_mark false = refl

-- a mark is 0 or 1
flag_is : (m : ℕ) → m ≤ 1 → m ≡ cond (is_marked m) 1 0
flag_is m l = ⊎_elim (λ t. rw t (eqb-true m 1 t)) (λ t. rw t (zero_is t)) (bool (is_marked m))
  where
    zero_is : eqb m 1 ≡ false → m ≡ 0
    zero_is t = ⊎_elim (λ lt. omega arith) (λ ge. absurd (eqb-false m 1 t (omega arith))) (lt_or_ge m 1)

mark_one : (n : ℕ) (seen : ℕ → Bool) → updated n 1 (mark_for seen) ≡ mark_for (with_one n seen)
mark_one n seen =
    fun_ext λ m. ⊎_elim
    (λ t. let e = eqb-true m n t in updated_at n 1 (mark_for seen) m e ∙ sym (ap (λ (b : Bool). cond b 1 0) (one_at n seen m e)))
    (λ t. let e = eqb-false m n t in updated_off n 1 (mark_for seen) m e ∙ sym (ap (λ (b : Bool). cond b 1 0) (one_off n seen m e)))
    (bool (eqb m n))

-- The window of w numbers from b on.

pub in_window : (w b n : ℕ) → inside w b n ≡ true → (b ≤ n) × (n < b + w)
unfolding inside
in_window w b n e =
    ⊎_elim
    (λ l. clash (inside w b n) e (rw (lt-leb b n l) refl))
    (λ l. ⊎_elim (λ u. (l, u)) (λ u. clash (inside w b n) e (rw (le-leb b n l, le-ltb n (b + w) u) refl)) (lt_or_ge n (b + w)))
    (lt_or_ge n b)

pub window_in : (w b n : ℕ) → b ≤ n → n < b + w → inside w b n ≡ true
unfolding inside
window_in w b n l u = rw (le-leb b n l, lt-ltb n (b + w) u) refl

pub window_out : (w b n : ℕ) → b + w ≤ n → inside w b n ≡ false
window_out w b n l = not_so (inside w b n) (λ t. omega (arith, in_window w b n t))

marked_in_lem : (w : ℕ) (r : Receiver) (n : ℕ) → r.base.0 ≤ n → n < r.base.0 + w → marked_in w r n ≡ is_marked (mark_at w r n)
unfolding marked_in
marked_in_lem w r n l u = ap (λ (b : Bool). cond b (is_marked (mark_at w r n)) false) (window_in w r.base.0 n l u)

marked_out : (w : ℕ) (r : Receiver) (n : ℕ) → r.base.0 + w ≤ n → marked_in w r n ≡ false
unfolding marked_in
marked_out w r n l = ap (λ (b : Bool). cond b (is_marked (mark_at w r n)) false) (window_out w r.base.0 n l)

pub in_marked : (w : ℕ) (r : Receiver) (n : ℕ) → marked_in w r n ≡ true
    → (r.base.0 ≤ n) × (n < r.base.0 + w) × (is_marked (mark_at w r n) ≡ true)
unfolding marked_in
in_marked w r n e =
    ⊎_elim
    (λ t. let (l, u) = in_window w r.base.0 n t in
    (l, u, sym (ap (λ (b : Bool). cond b (is_marked (mark_at w r n)) false) t) ∙ e))
    (λ t. clash (marked_in w r n) e (ap (λ (b : Bool). cond b (is_marked (mark_at w r n)) false) t))
    (bool (inside w r.base.0 n))

-- A consistent record's marks.

pub marks_outset : (w cap : ℕ) (r : Receiver) → 0 < w → Facts w cap r
    → Marks w cap r.base.0 r.base.0 r.end.0 (marked_in w r) (marks_of r)
marks_outset w cap r pos k =
    record {
      inv =
          record {
            weak =
                record {
                  size = k.marks_size;
                  from = omega arith;
                  below = λ n l u. absurd (omega arith);
                  holds = λ n l u.
                      flag_is (mark_at w r n) (k.mark_flag n l u) ∙ sym (ap (λ (b : Bool). cond b 1 0) (marked_in_lem w r n l u));
                  beyond = λ n l. ap (λ (b : Bool). cond b 1 0) (marked_out w r n l);
                  spare = k.marks_spare;
                };
            stands =
                is_mark (marked_in w r r.base.0)
                ∙ marked_in_lem w r r.base.0 (omega arith) (omega arith)
                ∙ k.base_stands;
          };
      low = omega arith;
      near = k.end_near;
      under = λ n t. let (l, u, m) = in_marked w r n t in k.marks_end n l u m;
      last = λ l. marked_in_lem w r (r.end.0 - 1) (omega arith) (omega (arith, k.end_near)) ∙ k.end_marked l;
      low_range = k.base_range;
      end_range = k.end_range;
    }

-- What a packet and a waiver do to them.

end_last : (b n e : ℕ) (seen : ℕ → Bool) → (b < e → seen (e - 1) ≡ true) → b < max e (n + 1) → with_one n seen (max e (n + 1) - 1) ≡ true
end_last b n e seen h l =
    ⊎_elim
    (λ lt. let q : e - 1 ≡ max e (n + 1) - 1 = omega arith in
    subst (λ (x : ℕ). with_one n seen x ≡ true) q (one_keeps n seen (e - 1) (h (omega arith))))
    (λ ge. one_at n seen (max e (n + 1) - 1) (omega arith))
    (lt_or_ge n e)

module _ {w cap b lo e : ℕ} {seen : ℕ → Bool} {m : Win ℕ} (pos : 0 < w) (fits : w ≤ cap) (h : Marks w cap b lo e seen m) where
  lifted_marks : (v : ℕ) → Weak 0 w cap is_marked (max lo v) (mark_for seen) (lifted 0 w v m)
  lifted_marks v = lift_weak (mark_shape w cap pos fits) v h.inv.weak

  marked_weak : (v n : ℕ) → n < max lo v + w → Weak 0 w cap is_marked (max lo v) (mark_for (with_one n seen)) (marked w (lifted 0 w v m) n)
  unfolding marked
  marked_weak v n u =
      subst (λ (f : ℕ → ℕ). Weak 0 w cap is_marked (max lo v) f (marked w (lifted 0 w v m) n)) (mark_one n seen)
      (⊎_elim
      (λ lt. rw (lt-ltb n (lifted 0 w v m).base lt) (below_weak (mark_shape w cap pos fits) n 1 (lifted_marks v) lt u refl))
      (λ ge. rw (le-ltb n (lifted 0 w v m).base ge) (put_weak (mark_shape w cap pos fits) n 1 (lifted_marks v) ge u))
      (lt_or_ge n (lifted 0 w v m).base))

  -- v is waived and n marked
  pub marks_packet : (v n : ℕ) → v ≤ highest → n ≤ highest → n < max lo v + w
      → Marks w cap b (max lo v) (max e (n + 1)) (with_one n seen) (slid 0 w is_marked w (marked w (lifted 0 w v m) n))
  marks_packet v n lv ln u =
      record {
        inv = slid_inv (mark_shape w cap pos fits) (marked_weak v n u);
        low = omega (arith, h.low);
        near = omega (arith, h.near);
        under = one_or n seen (λ x. x < max e (n + 1)) (omega arith) (λ x t. omega (arith, h.under x t));
        last = end_last b n e seen h.last;
        low_range = omega (arith, h.low_range);
        end_range = omega (arith, h.end_range);
      }

  -- v is waived
  pub marks_waiver : (v : ℕ) → v ≤ highest → Marks w cap b (max lo v) e seen (slid 0 w is_marked w (lifted 0 w v m))
  marks_waiver v lv =
      record {
        inv = slid_inv (mark_shape w cap pos fits) (lifted_marks v);
        low = omega (arith, h.low);
        near = omega (arith, h.near);
        under = h.under;
        last = h.last;
        low_range = omega (arith, h.low_range);
        end_range = h.end_range;
      }

  -- what the places tell
  pub mark_seen : (n : ℕ) → m.base ≤ n → n < m.base + w → is_marked (here 0 w m n) ≡ seen n
  mark_seen n l u = ap is_marked (h.inv.weak.holds n l u) ∙ is_mark (seen n)

  -- "base .. above 4,294,967,296"
  pub marks_range : m.base ≤ past_highest
  marks_range =
      ⊎_elim
      (λ lt. absurd (omega (arith, h.end_range, h.under past_highest (sym (is_mark (seen past_highest)) ∙ h.inv.weak.below past_highest h.low_range lt))))
      (λ le. le)
      (lt_or_ge past_highest m.base)
