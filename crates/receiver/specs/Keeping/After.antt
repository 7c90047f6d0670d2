-- The facts of the record that each accepted call leaves.
use Rattle.std.specs.Prelude.{ℕ, ◌+◌, ◌-◌, ◌%◌, ◌≤◌, ◌<◌, Bool, true, false, cond, ◌≡◌, refl, length}
use Rattle.std.proofs.Common.{⊎_elim, sym, ◌∙◌, ap, subst, mod-lt, arith}
use Rattle.common.specs.Facts.{lt_or_ge, bool}
use Rattle.common.specs.Put.{put_of, put_length}
use Rattle.numbers.specs.Full.{highest, highest_first}
use Rattle.window.specs.Store.{place_size, store_size, store_place}
use Rattle.window.specs.Sliding.{updated}
use Rattle.receiver.specs.declared.Hold.{Hold}
use Rattle.receiver.specs.declared.Receiver.{Receiver}
use Rattle.receiver.specs.Record.{State, is_marked, is_held, holding, marks_of, holds_of, hold_at}
use Rattle.receiver.specs.Packet.{Packet, waived, keeps, holds_after, store_after, receiver_after, waiver_after}
use Rattle.receiver.specs.Take.{receiver_taken}
use Rattle.receiver.specs.Facts.{Facts}
use Rattle.receiver.specs.Keeping.Marks.{Marks, mark_seen, marks_range, marks_outset, marks_packet, marks_waiver}
use Rattle.receiver.specs.Keeping.Holds.{Holds, hold_in, holds_outset, holds_new, holds_taken, holds_range, keeps_late, keeps_held, keeps_new}
use Rattle.receiver.specs.Keeping.Accepted.{Accepted, due_held}

-- the first numbers n and c in their range, and not above base, end and due
pub record Firsts (n c b e d : ℕ) : Type 0 where
  pub first_data : n ≤ highest_first
  pub first_channel : c ≤ highest_first
  pub base_from : n ≤ b
  pub end_from : n ≤ e
  pub due_from : c ≤ d

facts_firsts : {w cap : ℕ} {r : Receiver} → Facts w cap r
    → Firsts r.firstdata.0 r.firstchannel.0 r.base.0 r.end.0 r.due.0
facts_firsts k =
    record { first_data = k.first_data; first_channel = k.first_channel; base_from = k.base_from; end_from = k.end_from; due_from = k.due_from }

-- A record whose numbers and blocks are in order is consistent.
pub facts_from : {w cap b lo e d : ℕ} {seen : ℕ → Bool} {want : ℕ → Hold} (r : Receiver) → 0 < w → w ≤ cap
    → Firsts r.firstdata.0 r.firstchannel.0 b e d
    → Marks w cap b lo e seen (marks_of r) → r.end.0 ≡ e → Holds w cap d want (holds_of r) → Facts w cap r
facts_from {w} {cap} {b} {lo} {e} {d} {seen} {want} r pos fits f m z h =
    let from = m.inv.weak.from in
    let low = m.low in
    let due = h.weak.from in
    record {
      marks_size = m.inv.weak.size;
      holds_size = h.weak.size;
      first_data = f.first_data;
      first_channel = f.first_channel;
      base_from = omega (arith, f.base_from);
      base_range = marks_range pos fits m;
      end_from = omega (arith, f.end_from);
      end_range = omega (arith, m.end_range);
      due_from = omega (arith, f.due_from);
      due_range = holds_range pos fits h;
      base_stands = ap is_marked (m.inv.weak.holds r.base.0 (omega arith) (omega arith)) ∙ m.inv.stands;
      end_near = omega (arith, m.near);
      end_marked = λ l.
          mark_seen pos fits m (r.end.0 - 1) (omega arith) (omega (arith, m.near)) ∙ ap (λ (x : ℕ). seen (x - 1)) z ∙ m.last (omega arith);
      mark_flag = λ n l u. subst (λ (x : ℕ). x ≤ 1) (sym (m.inv.weak.holds n l u)) (small (seen n));
      marks_end = λ n l u t. omega (arith, m.under n (sym (mark_seen pos fits m n l u) ∙ t));
      held_short = λ c l u t. let q = h.weak.holds c l u in
          subst (λ (x : Hold). x.length ≤ place_size) (sym q) (h.short c (ap is_held (sym q) ∙ t));
      held_range = λ c l u t. h.range c (ap is_held (sym (h.weak.holds c l u)) ∙ t);
      not_held = λ c l u t. let q = h.weak.holds c l u in q ∙ h.clear c (ap is_held (sym q) ∙ t);
      marks_spare = m.inv.weak.spare;
      holds_spare = h.weak.spare;
    }
  where
    small : (x : Bool) → cond x 1 0 ≤ 1
    small true = omega arith
    small false = omega arith

-- A packet.

holds_after_lem : {w cap : ℕ} (r : Receiver) (p : Packet) → 0 < w → w ≤ cap → Facts w cap r → Accepted w r p → length p.block ≤ place_size
    → (want : ℕ → Hold) × Holds w cap r.due.0 want (record { base = r.due.0; places = holds_after w r p })
holds_after_lem {w} {cap} r p pos fits k a short = ⊎_elim late in_time (lt_or_ge p.channel r.due.0)
  where
    Goal : Type 0
    Goal = (want : ℕ → Hold) × Holds w cap r.due.0 want (record { base = r.due.0; places = holds_after w r p })

    stays : keeps w r p.channel ≡ false → Goal
    stays e = rw e (hold_in w r, holds_outset w cap r k)

    late : p.channel < r.due.0 → Goal
    late lt = stays (keeps_late w r p.channel lt)

    new : r.due.0 ≤ p.channel → is_held (hold_at w r p.channel) ≡ false → Goal
    new ge t =
        let e : keeps w r p.channel ≡ true = keeps_new w r p.channel ge t in
        rw e (
          updated p.channel (holding (length p.block)) (hold_in w r),
          holds_new pos fits (holds_outset w cap r k) p.channel (length p.block) ge a.channel_near a.channel_range short,
        )

    in_time : r.due.0 ≤ p.channel → Goal
    in_time ge = ⊎_elim (λ t. stays (keeps_held w r p.channel ge t)) (new ge) (bool (is_held (hold_at w r p.channel)))

pub packet_facts : {w cap : ℕ} (r : Receiver) (p : Packet) → 0 < w → w ≤ cap → Facts w cap r → Accepted w r p → length p.block ≤ place_size
    → Facts w cap (receiver_after w r p)
packet_facts {w} {cap} r p pos fits k a short =
    let (want, h) = holds_after_lem r p pos fits k a short in
    let m = marks_packet pos fits (marks_outset w cap r pos k) (waived p.aoa) p.number a.aoa_range a.number_range a.number_near in
    facts_from (receiver_after w r p) pos fits
    (record { first_data = k.first_data; first_channel = k.first_channel; base_from = k.base_from; end_from = omega (arith, k.end_from); due_from = k.due_from })
    m refl h

-- An AckOfAcks alone.

pub waiver_facts : {w cap : ℕ} (r : Receiver) (v : ℕ) → 0 < w → w ≤ cap → Facts w cap r → v ≤ highest → Facts w cap (waiver_after w r v)
waiver_facts {w} {cap} r v pos fits k l =
    facts_from (waiver_after w r v) pos fits (facts_firsts k) (marks_waiver pos fits (marks_outset w cap r pos k) v l) refl (holds_outset w cap r k)

-- A take.

pub taken_facts : {w cap : ℕ} (r : Receiver) → 0 < w → w ≤ cap → Facts w cap r → due_held w r ≡ true → Facts w cap (receiver_taken w r)
taken_facts {w} {cap} r pos fits k t =
    let h = holds_outset w cap r k in
    facts_from (receiver_taken w r) pos fits (facts_firsts k) (marks_outset w cap r pos k) refl
    (holds_taken pos fits h (ap is_held (sym (h.weak.holds r.due.0 (omega arith) (omega arith))) ∙ t))

-- The store.

pub place_fits : (w c n : ℕ) → 0 < w → n ≤ place_size → store_place w c + n ≤ store_size w
place_fits w c n pos l = let lw : c % w < w = mod-lt c pos in omega arith

pub store_length : (w : ℕ) (s : State) (p : Packet) → 0 < w → length s.store ≡ store_size w → length p.block ≤ place_size
    → length (store_after w s p) ≡ length s.store
store_length w s p pos e short = go (keeps w s.receiver p.channel)
  where
    go : (b : Bool) → length (cond b (put_of s.store (store_place w p.channel) p.block) s.store) ≡ length s.store
    go true = put_length s.store (store_place w p.channel) p.block (omega (arith, e, place_fits w p.channel (length p.block) pos short))
    go false = refl
