-- What every moment of a history of demand 3's set has in common: which numbers and blocks came tells what the record is and what the
-- store holds, so each datagram of the set is accepted, and each take hands over the block due or nothing.
use Rattle.std.specs.Prelude.{ℕ, ◌+◌, ◌≤◌, ◌<◌, max, Bool, false, ◌⊎◌, ◌≡◌, length}
use Rattle.std.proofs.Math.Bool.{true, cond}
use mathlib.Core.List.Memᴰ
use mathlib.Core.List.{List, [], ◌∷◌, map}
use Rattle.std.proofs.Common.{inl, ◌∙◌, subst, arith, eq-eqb, eqb-true}
use Rattle.std.proofs.Math.Logic.{inr, ⊎_elim}
use Rattle.std.proofs.Math.Option.{Option, none, some}
use Rattle.std.proofs.Math.Path.{refl, sym, ap}
use Rattle.std.proofs.Math.Dec.{eqb}
use Rattle.common.specs.Facts.{lt_or_ge, bool, not_so}
use Rattle.numbers.specs.Full.{highest}
use Rattle.window.specs.Store.{place_size, store_size}
use Rattle.window.specs.Sliding.{base_high_lem}
use Rattle.window.specs.Members.{In, in_map, from_map, with_one, one_again, one_or}
use Rattle.wire.specs.Same.{body_in}
use Rattle.numbers.specs.declared.DataNumber.{DataNumber}
use Rattle.numbers.specs.declared.ChannelNumber.{ChannelNumber}
use Rattle.receiver.specs.Record.{State, is_held, marks_of, holds_of, hold_at, contents}
use Rattle.receiver.specs.Packet.{Packet, waived, packet_of, arrival_answer, arrival_of, holds_after, store_after, receiver_after, keeps}
use Rattle.receiver.specs.Take.{take_answer, block_due, receiver_taken, taken_of}
use Rattle.receiver.specs.Receive.{on_some, arrival_from, values_answer, values_of, read_answer, read_into, receive_answer, receive_of}
use Rattle.receiver.specs.Determined.{marked_in, held_in, block_in, body_by}
use Rattle.receiver.specs.Facts.{Facts, sound_facts, facts_sound}
use Rattle.receiver.specs.Keeping.Marks.{Marks, mark_shape, marks_outset, marks_packet, in_marked}
use Rattle.receiver.specs.Keeping.Holds.{hold_shape, keeps_late, keeps_held, keeps_new}
use Rattle.receiver.specs.Keeping.Accepted.{Accepted, accepted_packet, due_held, taken_held}
use Rattle.receiver.specs.Keeping.After.{facts_from}
use Rattle.receiver.specs.Blocks.{read_block}
use Rattle.receiver.specs.Keeping.Brought.{packet_block}
use Rattle.receiver.specs.Keeping.Calls.{Sound}
use Rattle.receiver.specs.History.{takes, step_of, given_of}
use Rattle.receiver.specs.Set.{AoaFits, packet_at, Set}
use Rattle.receiver.specs.Order.Again.{Above, packet_at_lem, brings_again}
use Rattle.receiver.specs.Order.Stored.{Stored, held_came, stored_late, stored_new, stored_taken, stored_due, stored_outset}

-- The first of the set with a channel number has it and its block.
block_found : (p : Packet) {ps : List Packet} → In p ps → (q : Packet) × In q ps × (p.channel ≡ q.channel) × (block_in ps p.channel ≡ q.block)
unfolding block_in
block_found p (Memᴰ.head {x = x} {xs = xs} e) =
    let c : p.channel ≡ x.channel = ap (λ (y : Packet). y.channel) e in
    (x, Memᴰ.head refl, c, ap (λ (b : Bool). cond b x.block (block_in xs p.channel)) (eq-eqb p.channel x.channel c))
block_found p (Memᴰ.tail {x = x} {xs = xs} m) =
    let (q, i, c, b) = block_found p m in
    ⊎_elim
    (λ t. (x, Memᴰ.head refl, eqb-true p.channel x.channel t, ap (λ (y : Bool). cond y x.block (block_in xs p.channel)) t))
    (λ t. (q, Memᴰ.tail i, c, ap (λ (y : Bool). cond y x.block (block_in xs p.channel)) t ∙ b))
    (bool (eqb p.channel x.channel))

pub body_held : (w : ℕ) (s : State) (ps : List Packet) (c : ℕ) → held_in w s.receiver c ≡ true → body_by w s ps c ≡ contents w s c
unfolding body_by
body_held w s ps c t = ap (λ (b : Bool). cond b (contents w s c) (block_in ps c)) t

pub body_new : (w : ℕ) (s : State) (ps : List Packet) (c : ℕ) → held_in w s.receiver c ≡ false → body_by w s ps c ≡ block_in ps c
unfolding body_by
body_new w s ps c t = ap (λ (b : Bool). cond b (contents w s c) (block_in ps c)) t

module _ (w cap : ℕ) (o : State) (ds : List (List ℕ)) (k : Set w cap o ds) where
  abbrev pub brings_of : List ℕ → Packet
  brings_of = packet_at o.receiver

  abbrev pub body : ℕ → List ℕ
  body = body_by w o (map brings_of ds)

  pub outset_facts : Facts w cap o.receiver
  outset_facts = (sound_facts w cap o.receiver (length o.store) k.outset).0

  pub outset_size : length o.store ≡ store_size w
  outset_size = (sound_facts w cap o.receiver (length o.store) k.outset).1

  -- A datagram of the set.

  brings_body : (d : List ℕ) → In d ds → (brings_of d).block ≡ body (brings_of d).channel
  brings_body d i = ⊎_elim held new (bool (held_in w o.receiver (brings_of d).channel))
    where
      held : held_in w o.receiver (brings_of d).channel ≡ true → (brings_of d).block ≡ body (brings_of d).channel
      held t = k.with_held d i t ∙ sym (body_held w o (map brings_of ds) (brings_of d).channel t)

      new : held_in w o.receiver (brings_of d).channel ≡ false → (brings_of d).block ≡ body (brings_of d).channel
      new t =
          let (p, j, c, b) = block_found (brings_of d) (in_map brings_of d i) in
          let (e, l, q) = from_map brings_of p ds j in
          k.agree d e i l (c ∙ ap (λ (x : Packet). x.channel) q)
          ∙ ap (λ (x : Packet). x.block) (sym q)
          ∙ sym b
          ∙ sym (body_new w o (map brings_of ds) (brings_of d).channel t)

  brings_short : (d : List ℕ) → In d ds → length (brings_of d).block ≤ place_size
  brings_short d i =
      let q = k.readable d i in
      let b = read_block d q.taken q.reads q.carries in
      let e : (brings_of d).block ≡ body_in d q.taken =
      ap (λ (p : Packet). p.block) (packet_at_lem o.receiver d q)
      ∙ packet_block o.receiver q.taken.values (body_in d q.taken) q.packet q.widens in
      subst (λ (x : List ℕ). length x ≤ place_size) (sym e) (omega (arith, b.long, b.short))

  aoa_high : (a : Option ℕ) → AoaFits w o.receiver a → (waived a ≤ o.receiver.base.0 + w) × (waived a ≤ highest)
  aoa_high none f = (omega arith, omega arith)
  aoa_high (some v) f = (f.2, f.3)

  -- A moment.

  -- all below lo is waived, e is the end; seen and has say which data numbers and which blocks came
  pub record Good (lo e : ℕ) (seen has : ℕ → Bool) (s : State) : Type 0 where
    pub first_data : s.receiver.firstdata ≡ o.receiver.firstdata
    pub first_channel : s.receiver.firstchannel ≡ o.receiver.firstchannel
    pub marks : Marks w cap o.receiver.base.0 lo e seen (marks_of s.receiver)
    pub high : lo ≤ o.receiver.base.0 + w
    pub seen_high : (n : ℕ) → seen n ≡ true → n < o.receiver.base.0 + w
    pub ends : s.receiver.end.0 ≡ e
    pub end_low : o.receiver.end.0 ≤ e
    pub blocks : Stored w cap o.receiver.due.0 body has (holds_of s.receiver) s.store

  pub good_outset : Good o.receiver.base.0 o.receiver.end.0 (marked_in w o.receiver) (held_in w o.receiver) o
  good_outset =
      record {
        first_data = refl;
        first_channel = refl;
        marks = marks_outset w cap o.receiver k.some outset_facts;
        high = omega arith;
        seen_high = λ n t. (in_marked w o.receiver n t).1;
        ends = refl;
        end_low = omega arith;
        blocks = stored_outset o body k.some outset_facts outset_size (body_held w o (map brings_of ds));
      }

  module _ {lo e : ℕ} {seen has : ℕ → Bool} {s : State} (g : Good lo e seen has s) where
    pub good_facts : Facts w cap s.receiver
    good_facts =
        let n : s.receiver.firstdata.0 ≡ o.receiver.firstdata.0 = ap (λ (x : DataNumber). x.0) g.first_data in
        let c : s.receiver.firstchannel.0 ≡ o.receiver.firstchannel.0 = ap (λ (x : ChannelNumber). x.0) g.first_channel in
        let q = outset_facts in
        facts_from s.receiver k.some k.fits
        (record {
          first_data = omega (arith, q.first_data);
          first_channel = omega (arith, q.first_channel);
          base_from = omega (arith, q.base_from);
          end_from = omega (arith, q.end_from, g.end_low);
          due_from = omega (arith, q.due_from);
        })
        g.marks g.ends g.blocks.holds

    pub good_sound : Sound w cap s
    good_sound = facts_sound w cap s.receiver (length s.store) good_facts g.blocks.sized

    good_above : Above w o.receiver s.receiver
    good_above =
        record {
          first_data = ap (λ (x : DataNumber). x.0) g.first_data;
          first_channel = ap (λ (x : ChannelNumber). x.0) g.first_channel;
          base_low = omega (arith, g.marks.low, g.marks.inv.weak.from);
          base_high =
              base_high_lem (mark_shape w cap k.some k.fits) g.marks.inv.weak (o.receiver.base.0 + w) g.high
              (ap (λ (b : Bool). cond b 1 0) (not_so (seen (o.receiver.base.0 + w)) (λ t. omega (arith, g.seen_high (o.receiver.base.0 + w) t))));
          due_low = g.blocks.holds.weak.from;
          due_high =
              base_high_lem (hold_shape w cap k.some k.fits) g.blocks.holds.weak (o.receiver.due.0 + w) (omega arith)
              (g.blocks.holds.weak.beyond (o.receiver.due.0 + w) (omega arith));
        }

    -- A datagram arrives.

    module _ (d : List ℕ) (i : In d ds) where
      accepted : Accepted w s.receiver (brings_of d)
      accepted =
          let f = k.bounds d i in
          let above = good_above in
          record {
            aoa_range = (aoa_high (brings_of d).aoa f.aoa_fits).1;
            number_range = f.number_range;
            number_near = omega (arith, f.number_high, above.base_low);
            channel_range = f.channel_range;
            channel_near = omega (arith, f.channel_high, above.due_low);
          }

      pub answer_zero : receive_answer w cap s d ≡ 0
      unfolding receive_answer read_answer values_answer arrival_from arrival_answer on_some
      answer_zero =
          let q = k.readable d i in
          rw
          (good_sound, q.reads, q.carries, brings_again w o.receiver s.receiver k.small good_above d q (k.bounds d i))
          (accepted_packet w s.receiver (brings_of d) accepted)

      step_is : receive_of w cap s d ≡ record { receiver = receiver_after w s.receiver (brings_of d); store = store_after w s (brings_of d) }
      unfolding receive_of read_into values_of arrival_from arrival_of on_some packet_of
      step_is =
          let q = k.readable d i in
          rw (
            good_sound,
            q.reads,
            q.carries,
            brings_again w o.receiver s.receiver k.small good_above d q (k.bounds d i),
            accepted_packet w s.receiver (brings_of d) accepted,
          )
          refl

      blocks_after : Stored w cap o.receiver.due.0 body (with_one (brings_of d).channel has)
          (record { base = s.receiver.due.0; places = holds_after w s.receiver (brings_of d) }) (store_after w s (brings_of d))
      blocks_after = ⊎_elim late in_time (lt_or_ge (brings_of d).channel s.receiver.due.0)
        where
          c : ℕ
          c = (brings_of d).channel

          Goal : Type 0
          Goal =
              Stored w cap o.receiver.due.0 body (with_one c has)
              (record { base = s.receiver.due.0; places = holds_after w s.receiver (brings_of d) }) (store_after w s (brings_of d))

          short : length (body c) ≤ place_size
          short = subst (λ (b : List ℕ). length b ≤ place_size) (brings_body d i) (brings_short d i)

          stays : keeps w s.receiver c ≡ false → Stored w cap o.receiver.due.0 body (with_one c has) (holds_of s.receiver) s.store → Goal
          stays e q = rw e q

          late : c < s.receiver.due.0 → Goal
          late lt =
              stays (keeps_late w s.receiver c lt)
              (stored_late k.some k.fits g.blocks c lt (k.bounds d i).channel_high (k.bounds d i).channel_range short)

          held : s.receiver.due.0 ≤ c → is_held (hold_at w s.receiver c) ≡ true → Goal
          held ge t =
              let same = held_came k.some k.fits g.blocks c ge accepted.channel_near in
              stays (keeps_held w s.receiver c ge t)
              (subst (λ (f : ℕ → Bool). Stored w cap o.receiver.due.0 body f (holds_of s.receiver) s.store)
              (one_again c has (sym same ∙ t)) g.blocks)

          new : s.receiver.due.0 ≤ c → is_held (hold_at w s.receiver c) ≡ false → Goal
          new ge t =
              let e : keeps w s.receiver c ≡ true = keeps_new w s.receiver c ge t in
              rw (e, brings_body d i)
              (stored_new k.some k.fits g.blocks c ge (k.bounds d i).channel_high (k.bounds d i).channel_range short)

          in_time : s.receiver.due.0 ≤ c → Goal
          in_time ge = ⊎_elim (held ge) (new ge) (bool (is_held (hold_at w s.receiver c)))

      pub arrival_good : Good (max lo (waived (brings_of d).aoa)) (max e ((brings_of d).number + 1)) (with_one (brings_of d).number seen)
          (with_one (brings_of d).channel has) (receive_of w cap s d)
      arrival_good =
          let f = k.bounds d i in
          let a = aoa_high (brings_of d).aoa f.aoa_fits in
          rw step_is
          (record {
            first_data = g.first_data;
            first_channel = g.first_channel;
            marks =
                marks_packet k.some k.fits g.marks (waived (brings_of d).aoa) (brings_of d).number a.1 f.number_range
                (omega (arith, f.number_high, g.marks.low));
            high = omega (arith, g.high);
            seen_high = one_or (brings_of d).number seen (λ n. n < o.receiver.base.0 + w) f.number_high g.seen_high;
            ends = ap (λ (x : ℕ). max x ((brings_of d).number + 1)) g.ends;
            end_low = omega (arith, g.end_low);
            blocks = blocks_after;
          })

      pub arrival_due : (receive_of w cap s d).receiver.due.0 ≡ s.receiver.due.0
      arrival_due = ap (λ (x : State). x.receiver.due.0) step_is

    -- A take.

    pub due_came : due_held w s.receiver ≡ has s.receiver.due.0
    due_came = held_came k.some k.fits g.blocks s.receiver.due.0 (omega arith) (omega (arith, k.some))

    abbrev pub after_take : State
    after_take = record { receiver = receiver_taken w s.receiver; store = s.store }

    pub taken_good : has s.receiver.due.0 ≡ true → Good lo e seen has after_take
    taken_good t =
        record {
          first_data = g.first_data;
          first_channel = g.first_channel;
          marks = g.marks;
          high = g.high;
          seen_high = g.seen_high;
          ends = g.ends;
          end_low = g.end_low;
          blocks = stored_taken k.some k.fits g.blocks t;
        }

    -- nothing happens, or the block due is handed over
    abbrev pub Idle : ℕ → Type 0
    Idle room = (step_of w cap s (takes room) ≡ s) × (given_of w cap s room ≡ [])

    abbrev pub Hands : ℕ → Type 0
    Hands room =
        (has s.receiver.due.0 ≡ true) × (step_of w cap s (takes room) ≡ after_take)
        × (given_of w cap s room ≡ body s.receiver.due.0 ∷ [])

    pub take_cases : (room : ℕ) → Idle room ⊎ Hands room
    unfolding taken_of given_of contents
    take_cases room = ⊎_elim hands idle (bool (eqb (take_answer w cap s room) 0))
      where
        hands : eqb (take_answer w cap s room) 0 ≡ true → Idle room ⊎ Hands room
        hands t =
            let q : has s.receiver.due.0 ≡ true = sym due_came ∙ taken_held w cap s room (eqb-true (take_answer w cap s room) 0 t) in
            inr (
              q,
              ap (λ (b : Bool). record { receiver = cond b (receiver_taken w s.receiver) s.receiver; store = s.store }) t,
              ap (λ (b : Bool). cond b (block_due w s ∷ []) []) t
                  ∙ ap (λ (b : List ℕ). b ∷ []) (stored_due k.some k.fits g.blocks q),
            )

        idle : eqb (take_answer w cap s room) 0 ≡ false → Idle room ⊎ Hands room
        idle t =
            inl (
              ap (λ (b : Bool). record { receiver = cond b (receiver_taken w s.receiver) s.receiver; store = s.store }) t,
              ap (λ (b : Bool). cond b (block_due w s ∷ []) []) t,
            )

    pub take_good : (room : ℕ) → Good lo e seen has (step_of w cap s (takes room))
    take_good room =
        ⊎_elim
        (λ t. subst (λ (x : State). Good lo e seen has x) (sym t.0) g)
        (λ t. subst (λ (x : State). Good lo e seen has x) (sym t.1) (taken_good t.0))
        (take_cases room)
