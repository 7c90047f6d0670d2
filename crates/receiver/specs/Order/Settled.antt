-- Where a history ends that brings the whole set and leaves no block ready: the record is the one that outset and set determine.
use Prim.Native.Nat.{ℕ, zero, suc, ◌+◌, ◌-◌, ◌≤◌}
use Rattle.std.specs.Prelude.{Bool, false, cond, ◌||◌, ◌≡◌, refl, eqb, length}
use Rattle.std.proofs.Math.Bool.{true}
use mathlib.Core.List.{List, [], ◌∷◌, map}
use Rattle.std.proofs.Math.Logic.{⊎_elim}
use Rattle.std.proofs.Math.Path.{sym, ap, subst, fun_ext}
use Rattle.std.proofs.Common.{◌∙◌, arith}
use Rattle.common.specs.Facts.{bool, not_so, or_cases}
use Rattle.window.specs.Store.{place_size}
use Rattle.window.specs.Places.{spread}
use Rattle.window.specs.Free.{free, free_stops}
use Rattle.window.specs.Sliding.{closed_base, closed_places}
use Rattle.window.specs.Members.{from_map, among, among_in, came, top, came_among, among_same, top_same, map_in, map_map}
use Rattle.receiver.specs.declared.Hold.{Hold}
use Rattle.receiver.specs.declared.Receiver.{Receiver}
use Rattle.receiver.specs.Record.{State, is_held, empty, holding, hold_at}
use Rattle.receiver.specs.Packet.{Packet, waived}
use Rattle.receiver.specs.Take.{take_answer, taken_of}
use Rattle.receiver.specs.Determined.{Item, item_of, marked_in, held_in, seen_by, has_by, length_in, length_by, floor_by, base_by, end_by, due_by, mark_by, hold_by, determined_of, block_in, blocks_from}
use Rattle.receiver.specs.Keeping.Marks.{mark_shape, is_mark}
use Rattle.receiver.specs.Keeping.Holds.{hold_shape, in_held}
use Rattle.receiver.specs.Keeping.Accepted.{due_held, held_taken, not_held_eleven, eleven_not_held}
use Rattle.receiver.specs.Keeping.Calls.{Sound}
use Rattle.receiver.specs.History.{Event, takes, step_of, run_of, handed_of, datagrams_of, takes_of}
use Rattle.receiver.specs.Set.{Set, From, Covers}
use Rattle.receiver.specs.Order.Stored.{hold_for, is_held_lem, body_length}
use Rattle.receiver.specs.Order.Moments.{Good, brings_of, body, body_held, body_new, outset_facts, outset_size, good_outset, good_facts, good_sound, take_good, due_came}
use Rattle.receiver.specs.Order.Runs.{numbers_of, channels_of, ends_of, floors_of, run_good, run_handed}

-- Takes while nothing is ready.

idle_step : (w cap : ℕ) (s : State) (room : ℕ) → Sound w cap s → due_held w s.receiver ≡ false → step_of w cap s (takes room) ≡ s
unfolding taken_of
idle_step w cap s room h e = rw (not_held_eleven w cap s room h e) refl

idle_run : (w cap i : ℕ) (s : State) → Sound w cap s → due_held w s.receiver ≡ false → run_of w cap s (takes_of i) ≡ s
unfolding run_of takes_of
idle_run w cap zero s h e = refl
idle_run w cap (suc i) s h e = ap (λ (x : State). run_of w cap x (takes_of i)) (idle_step w cap s place_size h e) ∙ idle_run w cap i s h e

held_step : (w cap : ℕ) (s : State) (room : ℕ) → Sound w cap s → due_held w s.receiver ≡ true
    → (hold_at w s.receiver s.receiver.due.0).length ≤ room → (step_of w cap s (takes room)).receiver.due.0 ≡ s.receiver.due.0 + 1
unfolding taken_of
held_step w cap s room h e l = rw (held_taken w cap s room h e l) refl

-- Lengths of the set's blocks.

length_in_lem : (ps : List Packet) (c : ℕ) → length (block_in ps c) ≡ length_in (map item_of ps) c
unfolding block_in length_in
length_in_lem [] c = refl
length_in_lem (p ∷ ps) c = go (eqb c p.channel) (length_in_lem ps c)
  where
    go : (b : Bool) → length (block_in ps c) ≡ length_in (map item_of ps) c
        → length (cond b p.block (block_in ps c)) ≡ cond b (length p.block) (length_in (map item_of ps) c)
    go true h = refl
    go false h = h

module _ (w cap : ℕ) (o : State) (ds : List (List ℕ)) (k : Set w cap o ds) where
  abbrev pub items : List Item
  items = map item_of (map (brings_of w cap o ds k) ds)

  length_body : (c : ℕ) → length (body w cap o ds k c) ≡ length_by w o.receiver items c
  unfolding length_by
  length_body c = ⊎_elim held new (bool (held_in w o.receiver c))
    where
      ps : List Packet
      ps = map (brings_of w cap o ds k) ds

      told : (b : Bool) → held_in w o.receiver c ≡ b
          → cond b (hold_at w o.receiver c).length (length_in items c) ≡ length_by w o.receiver items c
      told b t = sym (ap (λ (x : Bool). cond x (hold_at w o.receiver c).length (length_in items c)) t)

      held : held_in w o.receiver c ≡ true → length (body w cap o ds k c) ≡ length_by w o.receiver items c
      held t =
          body_length o (body w cap o ds k) k.some (outset_facts w cap o ds k) (outset_size w cap o ds k) (body_held w o ps) c t
          ∙ told true t

      new : held_in w o.receiver c ≡ false → length (body w cap o ds k c) ≡ length_by w o.receiver items c
      new t = ap length (body_new w o ps c t) ∙ length_in_lem ps c ∙ told false t

  -- w takes with room enough leave nothing ready
  pub drained : (i : ℕ) {lo e : ℕ} {seen has : ℕ → Bool} {s : State} → Good w cap o ds k lo e seen has s
      → o.receiver.due.0 + w ≤ s.receiver.due.0 + i → (room : ℕ) → take_answer w cap (run_of w cap s (takes_of i)) room ≡ 11
  unfolding run_of takes_of
  drained zero {has = has} {s = s} g l room =
      not_held_eleven w cap s room (good_sound w cap o ds k g)
      (due_came w cap o ds k g
      ∙ sym (is_held_lem (body w cap o ds k) has s.receiver.due.0)
      ∙ ap is_held (g.blocks.holds.weak.beyond s.receiver.due.0 (omega arith)))
  drained (suc i) {s = s} g l room =
      let h = good_sound w cap o ds k g in
      ⊎_elim
      (λ e. let n = held_step w cap s place_size h e
      ((good_facts w cap o ds k g).held_short s.receiver.due.0 (omega arith) (omega (arith, k.some)) e) in
      drained i (take_good w cap o ds k g place_size) (omega arith) room)
      (λ e. subst (λ (x : State). take_answer w cap x room ≡ 11)
      (sym (ap (λ (x : State). run_of w cap x (takes_of i)) (idle_step w cap s place_size h e) ∙ idle_run w cap i s h e))
      (not_held_eleven w cap s room h e))
      (bool (due_held w s.receiver))

  -- no block from due + w on is held or of the set, so the run ends before
  pub has_no_more : has_by w o.receiver items (due_by w o.receiver items) ≡ false
  unfolding has_by due_by
  has_no_more =
      free_stops (has_by w o.receiver items) w o.receiver.due.0
      (not_so (has_by w o.receiver items (o.receiver.due.0 + w)) (λ t. ⊎_elim held brought (or_cases _ _ t)))
    where
      held : held_in w o.receiver (o.receiver.due.0 + w) ≡ true → ⊥
      held t = omega (arith, (in_held w o.receiver (o.receiver.due.0 + w) t).1)

      brought : among (map (λ (i : Item). i.channel) items) (o.receiver.due.0 + w) ≡ true → ⊥
      brought t =
          let (i, m, e) = from_map (λ (i : Item). i.channel) (o.receiver.due.0 + w) items (among_in (o.receiver.due.0 + w) _ t) in
          let (p, n, f) = from_map item_of i (map (brings_of w cap o ds k) ds) m in
          let (d, j, h) = from_map (brings_of w cap o ds k) p ds n in
          let c : o.receiver.due.0 + w ≡ (brings_of w cap o ds k d).channel =
          e ∙ ap (λ (x : Item). x.channel) f ∙ ap (λ (x : Packet). x.channel) h in
          omega (arith, (k.bounds d j).channel_high)

  module _ (es : List Event) (from : From ds es) (covers : Covers ds es) (room : ℕ) (ready : take_answer w cap (run_of w cap o es) room ≡ 11) where
    abbrev last : Receiver
    last = (run_of w cap o es).receiver

    -- what the history brought is what the set has
    abbrev of : (Item → ℕ) → List ℕ → ℕ
    of f d = f (item_of (brings_of w cap o ds k d))

    items_of : (f : Item → ℕ) → map (of f) ds ≡ map f items
    items_of f =
        sym (map_map item_of f (map (brings_of w cap o ds k) ds) ∙ map_map (brings_of w cap o ds k) (λ (p : Packet). f (item_of p)) ds)

    same_among : (f : Item → ℕ) (n : ℕ) → among (map (of f) (datagrams_of es)) n ≡ among (map f items) n
    same_among f n =
        among_same (map (of f) (datagrams_of es)) (map (of f) ds) (map_in (of f) (datagrams_of es) ds from) (map_in (of f) ds (datagrams_of es) covers) n
        ∙ ap (λ (l : List ℕ). among l n) (items_of f)

    same_top : (f : Item → ℕ) (b : ℕ) → top b (map (of f) (datagrams_of es)) ≡ top b (map f items)
    same_top f b =
        top_same b (map (of f) (datagrams_of es)) (map (of f) ds) (map_in (of f) (datagrams_of es) ds from) (map_in (of f) ds (datagrams_of es) covers)
        ∙ ap (λ (l : List ℕ). top b l) (items_of f)

    seen_is : came (marked_in w o.receiver) (numbers_of w cap o ds k (datagrams_of es)) ≡ seen_by w o.receiver items
    unfolding seen_by
    seen_is =
        fun_ext λ n.
        came_among (marked_in w o.receiver) (numbers_of w cap o ds k (datagrams_of es)) n
        ∙ ap (λ (b : Bool). marked_in w o.receiver n || b) (same_among (λ (i : Item). i.number) n)

    has_is : came (held_in w o.receiver) (channels_of w cap o ds k (datagrams_of es)) ≡ has_by w o.receiver items
    unfolding has_by
    has_is =
        fun_ext λ c.
        came_among (held_in w o.receiver) (channels_of w cap o ds k (datagrams_of es)) c
        ∙ ap (λ (b : Bool). held_in w o.receiver c || b) (same_among (λ (i : Item). i.channel) c)

    floor_is : top o.receiver.base.0 (floors_of w cap o ds k (datagrams_of es)) ≡ floor_by o.receiver items
    unfolding floor_by
    floor_is = same_top (λ (i : Item). waived i.aoa) o.receiver.base.0

    end_is : top o.receiver.end.0 (ends_of w cap o ds k (datagrams_of es)) ≡ end_by o.receiver items
    unfolding end_by
    end_is = same_top (λ (i : Item). i.number + 1) o.receiver.end.0

    settled : Good w cap o ds k (floor_by o.receiver items) (end_by o.receiver items) (seen_by w o.receiver items)
        (has_by w o.receiver items) (run_of w cap o es)
    settled =
        coe 0 1 (i. Good w cap o ds k (floor_is i) (end_is i) (seen_is i) (has_is i) (run_of w cap o es))
        (run_good w cap o ds k es from (good_outset w cap o ds k))

    -- Field by field.

    base_is : last.base.0 ≡ base_by w o.receiver items
    unfolding base_by
    base_is =
        closed_base (mark_shape w cap k.some k.fits) settled.marks.inv
        ∙ ap (λ (f : ℕ → Bool). free f w (floor_by o.receiver items)) (fun_ext λ n. is_mark (seen_by w o.receiver items n))

    due_is : last.due.0 ≡ due_by w o.receiver items
    unfolding due_by
    due_is =
        let held = is_held_lem (body w cap o ds k) (has_by w o.receiver items) in
        closed_base (hold_shape w cap k.some k.fits)
        (record {
          weak = settled.blocks.holds.weak;
          stands = held last.due.0 ∙ sym (due_came w cap o ds k settled) ∙ eleven_not_held w cap (run_of w cap o es) room ready;
        })
        ∙ ap (λ (f : ℕ → Bool). free f w o.receiver.due.0) (fun_ext held)

    marks_are : last.marks ≡ spread 0 w (length o.receiver.marks) (base_by w o.receiver items) (mark_by w o.receiver items)
    marks_are =
        closed_places (mark_shape w cap k.some k.fits) settled.marks.inv.weak
        ∙ ap (λ (n : ℕ). spread 0 w n last.base.0 (mark_by w o.receiver items)) (sym (outset_facts w cap o ds k).marks_size)
        ∙ ap (λ (b : ℕ). spread 0 w (length o.receiver.marks) b (mark_by w o.receiver items)) base_is

    holds_are : last.holds ≡ spread empty w (length o.receiver.holds) (due_by w o.receiver items) (hold_by w o.receiver items)
    holds_are =
        closed_places (hold_shape w cap k.some k.fits) settled.blocks.holds.weak
        ∙ ap (λ (n : ℕ). spread empty w n last.due.0 (hold_for (body w cap o ds k) (has_by w o.receiver items)))
        (sym (outset_facts w cap o ds k).holds_size)
        ∙ ap (λ (b : ℕ). spread empty w (length o.receiver.holds) b (hold_for (body w cap o ds k) (has_by w o.receiver items))) due_is
        ∙ ap (λ (f : ℕ → Hold). spread empty w (length o.receiver.holds) (due_by w o.receiver items) f)
        (fun_ext λ c. ap (λ (n : ℕ). cond (has_by w o.receiver items c) (holding n) empty) (length_body c))

    -- The whole record, and the blocks.

    pub record_determined : last ≡ determined_of w o.receiver items
    unfolding determined_of
    record_determined =
        λ i. record {
          firstdata = settled.first_data i;
          firstchannel = settled.first_channel i;
          base = record { 0 = base_is i };
          end = record { 0 = settled.ends i };
          due = record { 0 = due_is i };
          marks = marks_are i;
          holds = holds_are i;
        }

    pub blocks_handed : handed_of w cap o es
        ≡ blocks_from (body w cap o ds k) o.receiver.due.0 (due_by w o.receiver items - o.receiver.due.0)
    blocks_handed =
        let (i, h, q) = run_handed w cap o ds k es from (good_outset w cap o ds k) in
        let e : i ≡ due_by w o.receiver items - o.receiver.due.0 = omega (arith, due_is) in
        h ∙ ap (λ (j : ℕ). blocks_from (body w cap o ds k) o.receiver.due.0 j) e
