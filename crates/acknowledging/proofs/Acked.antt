-- Judging and the whole call: a law for each way out, over any window w.
use Rattle.std.specs.Prelude.{Bool, Err, Ok, Option, Some, None, Result}
use Prim.Native.Nat.{ℕ, ◌+◌, ◌≤◌, ◌<◌}
use mathlib.Core.Bool.{true, false}
use mathlib.Core.List.{List}
use mathlib.Core.Path.{◌≡◌, refl, sym, ◌∙◌, ap, subst}
use lib.ListN.{replicate}
use borrow.Author.Tests.{lt-ltb, le-ltb, lt-leb, le-leb, eq-eqb, ne_eqb}
use Rattle.common.specs.declared.Refusal.{Refusal}
use Rattle.common.specs.declared.Refusal.TheVariants.{NeverSent, Unsound}
use Rattle.common.specs.Answer.{no_of, answered_of, answered_refused, answered_accepted, no_zero}
use Rattle.common.specs.Choice.{when, unless}
use Rattle.numbers.specs.declared.DataNumber.{DataNumber}
use Rattle.numbers.specs.declared.Widened.{Widened}
use Rattle.numbers.specs.declared.Widened.TheVariants.{At, Below, Unclear}
use Rattle.numbers.specs.Widen.{widen_of, widened_as, widened_back, data_of}
use Rattle.numbers.specs.Nearest.{Near, widen_near}
use Rattle.vector.specs.Says.{states_of}
use Rattle.wire.specs.declared.Packet.{Packet}
use Rattle.wire.specs.Read.{read_of}
use Rattle.sender.specs.declared.Sender.{Sender}
use Rattle.acknowledging.specs.declared.Named.{Named}
use Rattle.sender.specs.Record.{remembering}
use Rattle.sender.specs.Consistent.{consistent_of}
use Rattle.sender.specs.Turn.{turned_of}
use Rattle.turning.specs.Chosen.{chosen_by}
use Rattle.sender.specs.Acknowledge.{acknowledging, told_by, told_answer, told_of, packet_of, read_answer, read_into, acknowledge_answer, acknowledge_of}
use Rattle.acknowledging.specs.Walk.{walk_of, judge_up_to, from_walk, judge_listed, applied_of, applied_so}

-- the number that was widened to
at_number : (n : DataNumber) (a : Widened ℕ) → At n ≡ widened_as data_of a → a ≡ At n.0
at_number n a h = sym (ap (widened_as (λ (m : DataNumber). m.0)) h ∙ widened_back (λ m. m.0) data_of (λ m. refl) a)

pub widened_least : (r f : ℕ) (n : DataNumber) → f < 65536 → At n ≡ widened_as data_of (widen_of r f) → n.0 ≤ r + 32767
widened_least r f n l h =
    let near : Near r f (At n.0) = subst (Near r f) (at_number n (widen_of r f) h) (widen_near r f l) in
    near.1

module _ (w : ℕ) where
  -- an ACK
  pub up_to_early : (firstdata next : ℕ) (a : Widened ℕ) (n : DataNumber) → At n ≡ widened_as data_of a → n.0 < firstdata → Err NeverSent ≡ judge_up_to w firstdata next a
  unfolding judge_up_to
  up_to_early firstdata next a n h l = rw (at_number n a h, lt-ltb n.0 firstdata l) refl

  pub up_to_late : (firstdata next : ℕ) (a : Widened ℕ) (n : DataNumber) → At n ≡ widened_as data_of a → firstdata ≤ n.0 → next ≤ n.0 → Err NeverSent ≡ judge_up_to w firstdata next a
  unfolding judge_up_to
  up_to_late firstdata next a n h l u = rw (at_number n a h, le-ltb n.0 firstdata l, le-leb next n.0 u) refl

  pub up_to_named : (firstdata next : ℕ) (a : Widened ℕ) (n : DataNumber) → At n ≡ widened_as data_of a → firstdata ≤ n.0 → n.0 < next
      → Ok (record { flags = replicate w false; upto = n.0 + 1 }) ≡ judge_up_to w firstdata next a
  unfolding judge_up_to
  up_to_named firstdata next a n h l u = rw (at_number n a h, le-ltb n.0 firstdata l, lt-leb next n.0 u) refl

  pub up_to_no_number : (firstdata next : ℕ) (a : Widened ℕ) (x : Widened DataNumber) → x ≡ widened_as data_of a → ((n : DataNumber) → x ≡ At n → ⊥)
      → Err NeverSent ≡ judge_up_to w firstdata next a
  unfolding judge_up_to
  up_to_no_number firstdata next (At m) x h never = absurd (never (data_of m) h)
  up_to_no_number firstdata next (Below m) x h never = refl
  up_to_no_number firstdata next Unclear x h never = refl

  -- a vector
  pub listed_early : (firstdata low next : ℕ) (a : Widened ℕ) (v : List ℕ) (n : DataNumber) → At n ≡ widened_as data_of a → n.0 < firstdata → Err NeverSent ≡ judge_listed w firstdata low next a v
  unfolding judge_listed
  listed_early firstdata low next a v n h l = rw (at_number n a h, lt-ltb n.0 firstdata l) refl

  pub listed_never : (firstdata low next : ℕ) (a : Widened ℕ) (v : List ℕ) (n : DataNumber) (x : Option (List Bool)) → At n ≡ widened_as data_of a → firstdata ≤ n.0
      → x ≡ walk_of w (states_of v) n.0 next low (replicate w false) → ((flags : List Bool) → x ≡ Some flags → ⊥) → Err NeverSent ≡ judge_listed w firstdata low next a v
  unfolding judge_listed from_walk
  listed_never firstdata low next a v n None h l e t = rw (at_number n a h, le-ltb n.0 firstdata l, ← e) refl
  listed_never firstdata low next a v n (Some flags) h l e t = absurd (t flags refl)

  pub listed_named : (firstdata low next : ℕ) (a : Widened ℕ) (v : List ℕ) (n : DataNumber) (flags : List Bool) → At n ≡ widened_as data_of a → firstdata ≤ n.0
      → Some flags ≡ walk_of w (states_of v) n.0 next low (replicate w false)
      → Ok (record { flags = flags; upto = 0 }) ≡ judge_listed w firstdata low next a v
  unfolding judge_listed from_walk
  listed_named firstdata low next a v n flags h l e = rw (at_number n a h, le-ltb n.0 firstdata l, ← e) refl

  pub listed_no_number : (firstdata low next : ℕ) (a : Widened ℕ) (v : List ℕ) (x : Widened DataNumber) → x ≡ widened_as data_of a
      → ((n : DataNumber) → x ≡ At n → ⊥) → Err NeverSent ≡ judge_listed w firstdata low next a v
  unfolding judge_listed
  listed_no_number firstdata low next (At m) v x h never = absurd (never (data_of m) h)
  listed_no_number firstdata low next (Below m) v x h never = refl
  listed_no_number firstdata low next Unclear v x h never = refl

  -- the whole call: its answer, and the record
  abbrev pub Takes : Sender → List ℕ → Result Unit Refusal → Sender → Type 0
  Takes s d answer q = (answer ≡ answered_of (acknowledge_answer w w s d)) × (q ≡ acknowledge_of w w s d)

  pub ack_unfit : (s : Sender) (d : List ℕ) → consistent_of w w s ≡ false → Takes s d (Err Unsound) s
  unfolding acknowledge_answer acknowledge_of
  ack_unfit s d h = (answered_refused Unsound _ (unless _ _ _ _ h refl), unless _ _ _ _ h refl)

  pub ack_refused : (s : Sender) (d : List ℕ) (r : Refusal) → consistent_of w w s ≡ true → Err r ≡ read_of d → Takes s d (Err r) s
  unfolding acknowledge_answer acknowledge_of read_answer read_into
  ack_refused s d r h e =
      (answered_refused r _ (when _ _ _ _ h (ap (read_answer s d) e)), when _ _ _ _ h (ap (read_into w s d) e))

  pub ack_dummy : (s : Sender) (d : List ℕ) → consistent_of w w s ≡ true → Ok None ≡ read_of d → Takes s d (Ok tt) s
  unfolding acknowledge_answer acknowledge_of read_answer read_into
  ack_dummy s d h e =
      (answered_accepted _ (when _ _ _ _ h (ap (read_answer s d) e)), when _ _ _ _ h (ap (read_into w s d) e))

  ack_read : (s q : Sender) (d : List ℕ) (p : Packet) (n : ℕ) → consistent_of w w s ≡ true → Ok (Some p) ≡ read_of d → n ≡ told_answer s (told_by s d p)
      → q ≡ packet_of w s d p → (n ≡ acknowledge_answer w w s d) × (q ≡ acknowledge_of w w s d)
  unfolding acknowledge_answer acknowledge_of read_answer read_into
  ack_read s q d p n h e a c =
      (when _ _ _ _ h (a ∙ ap (read_answer s d) e), when _ _ _ _ h (c ∙ ap (read_into w s d) e))

  pub ack_kept : (s : Sender) (d : List ℕ) (p : Packet) (r : Refusal) → consistent_of w w s ≡ true → Ok (Some p) ≡ read_of d
      → no_of r ≡ told_answer s (told_by s d p) → Takes s d (Err r) s
  unfolding packet_of
  ack_kept s d p r h e a =
      let both = ack_read s s d p (no_of r) h e a (unless _ _ _ _ (ne_eqb _ _ (λ x. no_zero r (a ∙ x))) refl) in
      (answered_refused r _ both.0, both.1)

  pub ack_turned : (s q : Sender) (d : List ℕ) (p : Packet) (k : Named) → consistent_of w w s ≡ true → Ok (Some p) ≡ read_of d → 0 ≡ told_answer s (told_by s d p)
      → applied_of w s (Ok k) ≡ told_of w s (told_by s d p) → q ≡ turned_of w acknowledging (chosen_by w k.flags k.upto) s
      → Takes s d (Ok tt) (remembering p.values.logwindow q)
  unfolding packet_of
  ack_turned s q d p k h e a b t =
      let both = ack_read s (remembering p.values.logwindow q) d p 0 h e a
      (when _ _ _ _ (eq-eqb _ _ (sym a)) (ap (remembering p.values.logwindow) (t ∙ sym (applied_so w s k) ∙ b))) in
      (answered_accepted _ both.0, both.1)
