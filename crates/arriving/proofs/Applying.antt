-- Applying what a packet brings, a law for each way out.
use Rattle.std.specs.Prelude.{Ok, Err}
use Rattle.common.specs.declared.Refusal.{Refusal}
use Prim.Native.Nat.{ℕ, ◌+◌, ◌%◌, ◌≤◌, ◌<◌, max}
use mathlib.Core.Bool.{Bool, true, false, cond}
use mathlib.Core.List.{List}
use mathlib.Core.Path.{◌≡◌, refl, sym, ◌∙◌, ap}
use lib.ListN.{length, get_or, set}
use lib.Seq.{set-get_or}
use borrow.Author.Tests.{lt-ltb, le-ltb, eq-eqb, ne_eqb}
use Rattle.common.specs.Put.{put_of}
use Rattle.window.specs.Store.{store_place}
use Rattle.wire.specs.declared.Packet.{Packet as WirePacket}
use Rattle.wire.specs.Same.{body_in}
use Rattle.window.specs.Window.{Win, lifted, slid}
use Rattle.receiver.specs.declared.Hold.{Hold}
use Rattle.receiver.specs.declared.Receiver.{Receiver}
use Rattle.judging.specs.declared.Arrived.{Arrived}
use Rattle.judging.specs.declared.Arrived.TheVariants.{Nothing, Waiver, Content}
use Rattle.receiver.specs.Record.{State, state, is_marked, empty, holding, marks_of}
use Rattle.receiver.specs.Packet.{Packet, marked, marks_after, is_new, keeps, receiver_after}
use Rattle.receiver.specs.Receive.{values_of}
use Rattle.judging.specs.Judge.{judged_of, packet_with, left_by}
use Rattle.judging.specs.Judged.{judged_leaves}

-- THE BLOCK

-- one below due, or held already, is a repeat, and any other is kept
pub kept_late : (due c : ℕ) (h : Hold) → c < due → is_new due c h ≡ false
unfolding is_new
kept_late due c h l = rw (lt-ltb c due l) refl

pub kept_held : (due c : ℕ) (h : Hold) → due ≤ c → h.held ≡ 1 → is_new due c h ≡ false
unfolding is_new
kept_held due c h l e = rw (le-ltb c due l, eq-eqb h.held 1 e) refl

pub kept_new : (due c : ℕ) (h : Hold) → due ≤ c → (h.held ≡ 1 → ⊥) → is_new due c h ≡ true
unfolding is_new
kept_new due c h l e = rw (le-ltb c due l, ne_eqb h.held 1 e) refl

-- THE WHOLE

-- a record with other marks, another end and other places for blocks
abbrev changed : Receiver → Win ℕ → ℕ → List Hold → Receiver
changed r m end holds =
    record {
      firstdata = r.firstdata;
      firstchannel = r.firstchannel;
      base = record { 0 = m.base };
      end = record { 0 = end };
      due = r.due;
      marks = m.places;
      holds = holds;
    }

-- block c, where h stands at its place: it is kept as the record keeps it, and so is its place
module _ (w : ℕ) (r : Receiver) (c at : ℕ) (h : Hold) (place : at ≡ c % w) (here : h ≡ get_or r.holds at empty) where
  kept_is : is_new r.due.0 c h ≡ keeps w r c
  unfolding is_new
  kept_is = rw (here, place) refl

  held_is : (k : ℕ) (x : Hold) → x ≡ cond (is_new r.due.0 c h) (holding k) h
      → set r.holds at x ≡ cond (keeps w r c) (set r.holds (c % w) (holding k)) r.holds
  held_is k x e = go (keeps w r c) (e ∙ ap (λ (t : Bool). cond t (holding k) h) kept_is)
    where
      go : (t : Bool) → x ≡ cond t (holding k) h → set r.holds at x ≡ cond t (set r.holds (c % w) (holding k)) r.holds
      go true q = rw (q, place) refl
      go false q = rw (q, here) (set-get_or r.holds at empty)

-- a refusal brings nothing
pub applied_refused : (w : ℕ) (r : Receiver) (s d : List ℕ) (p : WirePacket) (x : Refusal) → judged_of w r p.values ≡ Err x
    → (r ≡ (values_of w (state r s) d p).receiver) × (s ≡ (values_of w (state r s) d p).store)
unfolding left_by
applied_refused w r s d p x e =
    let l = ap (left_by w (state r s) (body_in d p)) (sym e) ∙ judged_leaves w (state r s) d p in
    (ap (λ (y : State). y.receiver) l, ap (λ (y : State). y.store) l)

module _ (w : ℕ) (r : Receiver) (s d : List ℕ) (p : WirePacket) (a : Arrived) (judged : judged_of w r p.values ≡ Ok a) where
  applied : (x : Arrived) → a ≡ x → left_by w (state r s) (body_in d p) (Ok x) ≡ values_of w (state r s) d p
  applied x e = ap (left_by w (state r s) (body_in d p)) (ap Ok (sym e) ∙ sym judged) ∙ judged_leaves w (state r s) d p

  -- a receiver and a store that are what is left
  abbrev Left : Receiver → List ℕ → Type 0
  Left q left = (q ≡ (values_of w (state r s) d p).receiver) × (left ≡ (values_of w (state r s) d p).store)

  parts : (q : Receiver) (left : List ℕ) → state q left ≡ values_of w (state r s) d p → Left q left
  parts q left e = (ap (λ (x : State). x.receiver) e, ap (λ (x : State). x.store) e)

  pub applied_nothing : a ≡ Nothing → Left r s
  unfolding left_by
  applied_nothing e = parts r s (applied Nothing e)

  pub applied_waiver : (v : ℕ) (m : Win ℕ) → a ≡ Waiver (record { 0 = v }) → m ≡ slid 0 w is_marked w (lifted 0 w v (marks_of r))
      → Left (changed r m r.end.0 r.holds) s
  unfolding left_by
  applied_waiver v m e x =
      parts (changed r m r.end.0 r.holds) s (ap (λ (o : Win ℕ). state (changed r o r.end.0 r.holds) s) x ∙ applied (Waiver (record { 0 = v })) e)

  pub applied_content : (n c v : ℕ) → a ≡ Content (record { 0 = n }) (record { 0 = c }) (record { 0 = v }) → (m : Win ℕ) → m ≡ slid 0 w is_marked w (marked w (lifted 0 w v (marks_of r)) n)
      → (end : ℕ) → end ≡ max r.end.0 (n + 1) → (at : ℕ) → at ≡ c % w → (h : Hold) → h ≡ get_or r.holds at empty → p.bytes ≡ length (body_in d p)
      → (x : Hold) → x ≡ cond (is_new r.due.0 c h) (holding p.bytes) h
      → (left : List ℕ) → left ≡ cond (is_new r.due.0 c h) (put_of s (store_place w c) (body_in d p)) s
      → Left (changed r m end (set r.holds at x)) left
  unfolding left_by
  applied_content n c v e m noted end raised at place h here long x held left stored =
      let o : Packet = packet_with n c v (body_in d p) in
      parts (changed r m end (set r.holds at x)) left
      (ap (λ (y : Win ℕ). state (changed r y end (set r.holds at x)) left) noted
      ∙ ap (λ (y : ℕ). state (changed r (marks_after w r o) y (set r.holds at x)) left) raised
      ∙ ap (λ (y : List Hold). state (changed r (marks_after w r o) (max r.end.0 (n + 1)) y) left)
      (held_is w r c at h place here (length (body_in d p)) x (held ∙ ap (λ (y : ℕ). cond (is_new r.due.0 c h) (holding y) h) long))
      ∙ ap (state (receiver_after w r o)) (stored ∙ ap (λ (t : Bool). cond t (put_of s (store_place w c) (body_in d p)) s) (kept_is w r c at h place here))
      ∙ applied (Content (record { 0 = n }) (record { 0 = c }) (record { 0 = v })) e)
