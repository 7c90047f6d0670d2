-- Resend: which block waits, and a law for each way out, over any window w.
use Rattle.common.specs.declared.Refusal.{Refusal}
use Rattle.std.specs.Prelude.{Err, Ok, Result}
use Rattle.common.specs.declared.Refusal.TheVariants.{Full, Nothing, Spent, Unsound, UsedUp}
use Prim.Native.Nat.{ℕ, suc, ◌+◌, ◌-◌, ◌*◌, ◌%◌, ◌≤◌, ◌<◌}
use mathlib.Core.Bool.{Bool, true, false, not}
use mathlib.Core.Option.{Option, none, some}
use mathlib.Core.List.{List}
use mathlib.Core.Path.{◌≡◌, refl, sym, ◌∙◌, ap}
use native.Mathlib.Omega.{arith}
use lib.ListN.{length, get_or, take, drop, length-take}
use borrow.Author.Tests.{lt-ltb, le-ltb, eq-eqb, ne_eqb}
use Rattle.common.specs.Answer.{no_of, no_zero, written_of, left_of, written_refused, left_refused, room_answer}
use Rattle.common.specs.Choice.{unless}
use Rattle.common.specs.Order.{first_here, first_skip}
use Rattle.numbers.specs.Full.{highest}
use Rattle.window.specs.Store.{place_size, store_size, size_wrong, size_right}
use Rattle.sender.specs.declared.Sender.{Sender}
use Rattle.numbers.specs.declared.ChannelNumber.{ChannelNumber}
use Rattle.std.specs.Prelude.{Option as Maybe, Some, None}
use Rattle.sender.specs.Record.{longest_sent, most_sends, State, is_waiting, no_block, block_at, contents}
use Rattle.sender.specs.Consistent.{consistent_of, sound_of}
use Rattle.sender.specs.Send.{data_bytes, numbers_full, sent_of, waiting_from, lowest_waiting, is_none, lowest_spent, resend_datagram, resend_answer, resend_of}
use Rattle.resending.specs.Lowest.{lowest_of}
use Rattle.sender.specs.Facts.{consistent_facts}
use Rattle.sender.specs.SendReady.{sound_facts, waiting_found, spent_is}
use Rattle.carrying.proofs.Told.{refused_is, wrote_is}

-- the number that was found, from what the code hands on
option_in : Maybe ChannelNumber → Option ℕ
option_in None = none
option_in (Some c) = some c.0

option_is : (o : Option ℕ) → option_in (lowest_of o) ≡ o
unfolding option_in
option_is none = refl
option_is (some c) = refl

lowest_none : (o : Option ℕ) → None ≡ lowest_of o → is_none o ≡ true
unfolding option_in
lowest_none o h = ap is_none (sym (ap option_in h ∙ option_is o))

pub lowest_some : (o : Option ℕ) (c : ℕ) → Some (record { 0 = c }) ≡ lowest_of o → o ≡ some c
unfolding option_in
lowest_some o c h = sym (ap option_in h ∙ option_is o)

-- the part of the store that is lent is short
pub part_short : (l : List ℕ) (start n : ℕ) → n ≤ longest_sent → length (take (start + n - start) (drop start l)) ≤ longest_sent
part_short l start n h = omega (arith, length-take (start + n - start) (drop start l))

module _ (w : ℕ) where
  -- the search, block by block: k blocks are left from c on
  pub waiting_start : (s : Sender) → waiting_from w s s.channellow.0 (s.channelnext.0 - s.channellow.0) ≡ lowest_waiting w s
  unfolding lowest_waiting
  waiting_start s = refl

  pub waiting_here : (s : Sender) (c next : ℕ) → c < next → is_waiting (block_at w s c) ≡ true → waiting_from w s c (next - c) ≡ lowest_waiting w s → Some (record { 0 = c }) ≡ lowest_of (lowest_waiting w s)
  unfolding waiting_from
  waiting_here s c next l t h =
      let e : next - c ≡ suc (next - (c + 1)) = omega arith in
      let k : waiting_from w s c (suc (next - (c + 1))) ≡ some c = rw t refl in
      ap lowest_of (sym (ap (waiting_from w s c) e ∙ k) ∙ h)

  pub waiting_next : (s : Sender) (c next : ℕ) → c < next → is_waiting (block_at w s c) ≡ false → waiting_from w s c (next - c) ≡ lowest_waiting w s
      → waiting_from w s (c + 1) (next - (c + 1)) ≡ lowest_waiting w s
  unfolding waiting_from
  waiting_next s c next l t h =
      let e : next - c ≡ suc (next - (c + 1)) = omega arith in
      let k : waiting_from w s c (suc (next - (c + 1))) ≡ waiting_from w s (c + 1) (next - (c + 1)) = rw t refl in
      sym (ap (waiting_from w s c) e ∙ k) ∙ h

  pub waiting_none : (s : Sender) (c next : ℕ) → next ≤ c → waiting_from w s c (next - c) ≡ lowest_waiting w s → None ≡ lowest_of (lowest_waiting w s)
  unfolding waiting_from
  waiting_none s c next l h =
      let e : next - c ≡ 0 = omega arith in
      ap lowest_of (sym (ap (waiting_from w s c) e) ∙ h)

  -- the block that waits is in range, and so is short and was sent few times
  pub block_few : (s : Sender) (size c : ℕ) → 0 < w → sound_of w w s size ≡ true → lowest_waiting w s ≡ some c
      → ((block_at w s c).length ≤ longest_sent) × ((block_at w s c).sends ≤ most_sends)
  unfolding lowest_waiting
  block_few s size c lw h e =
      let f = consistent_facts w w s lw (omega arith) (sound_facts w w s size h).0 in
      let j = waiting_found w s (s.channelnext.0 - s.channellow.0) s.channellow.0 c e in
      let u : c < s.channelnext.0 = omega (arith, j.most, f.bounds.channelnext) in
      (f.short c j.least u, f.few c j.least u)

  -- the datagram, with the part of the store that is lent
  pub datagram_is : (s : State) (c at : ℕ) → at ≡ c % w → lowest_waiting w s.sender ≡ some c
      → data_bytes s.sender.low.0 s.sender.next.0 c
      (take (at * place_size + (get_or s.sender.blocks at no_block).length - at * place_size) (drop (at * place_size) s.store))
      ≡ resend_datagram w s
  unfolding resend_datagram contents
  datagram_is s c at a h =
      let e : c % w * place_size + (block_at w s.sender c).length - c % w * place_size ≡ (block_at w s.sender c).length = omega arith in
      rw (a, h, e) refl

  -- what a resend leaves: the answer, the record and the buffer
  pub record Resent (s : State) (tick : ℕ) (out : List ℕ) (x : Result ℕ Refusal) (q : Sender) (left : List ℕ) : Type 0 where
    pub written : x ≡ written_of (resend_answer w w s (length out)) (resend_datagram w s)
    pub sender : q ≡ resend_of w w s tick (length out)
    pub bytes : left ≡ left_of (resend_answer w w s (length out)) (resend_datagram w s) out

  kept : (s : State) (tick room : ℕ) → (resend_answer w w s room ≡ 0 → ⊥) → s.sender ≡ resend_of w w s tick room
  unfolding resend_of
  kept s tick room h = unless _ _ _ _ (ne_eqb (resend_answer w w s room) 0 h) refl

  refuses : (s : State) (tick : ℕ) (out : List ℕ) (x : Refusal) → no_of x ≡ resend_answer w w s (length out) → Resent s tick out (Err x) s.sender out
  refuses s tick out x e =
      record {
        written = written_refused x _ _ e;
        sender = kept s tick (length out) (λ z. no_zero x (e ∙ z));
        bytes = left_refused (no_of x) _ _ _ e (no_zero x);
      }

  resend_unsound : (s : State) (tick : ℕ) (out : List ℕ) → sound_of w w s.sender (length s.store) ≡ false → Resent s tick out (Err Unsound) s.sender out
  unfolding resend_answer
  resend_unsound s tick out h = refuses s tick out Unsound (first_here _ _ _ (ap not h))

  pub resend_unsized : (s : State) (tick : ℕ) (out : List ℕ) → (length s.store ≡ store_size w → ⊥) → Resent s tick out (Err Unsound) s.sender out
  resend_unsized s tick out h = resend_unsound s tick out (sym (size_wrong w _ _ h))

  pub resend_unfit : (s : State) (tick : ℕ) (out : List ℕ) (r : Bool) → length s.store ≡ store_size w → r ≡ consistent_of w w s.sender → r ≡ false
      → Resent s tick out (Err Unsound) s.sender out
  resend_unfit s tick out r h e t = resend_unsound s tick out (sym (size_right w _ r _ h e) ∙ t)

  pub resend_none : (s : State) (tick : ℕ) (out : List ℕ) → sound_of w w s.sender (length s.store) ≡ true → None ≡ lowest_of (lowest_waiting w s.sender)
      → Resent s tick out (Err Nothing) s.sender out
  unfolding resend_answer
  resend_none s tick out h e = refuses s tick out Nothing (first_here _ _ _ (lowest_none (lowest_waiting w s.sender) e) ∙ first_skip _ _ _ (ap not h))

  -- the record is sound and block c is the one that waits: 22 is judged next, by its place
  pub record Found (s : State) (c : ℕ) : Type 0 where
    pub sound : sound_of w w s.sender (length s.store) ≡ true
    pub waits : lowest_waiting w s.sender ≡ some c

  pub resend_spent : (s : State) (tick : ℕ) (out : List ℕ) (c : ℕ) → Found s c → (block_at w s.sender c).sends ≡ most_sends → Resent s tick out (Err Spent) s.sender out
  unfolding resend_answer
  resend_spent s tick out c f t =
      refuses s tick out Spent
      (first_here _ _ _ (spent_is w s.sender c f.waits ∙ eq-eqb _ _ t) ∙ first_skip _ _ _ (ap is_none f.waits) ∙ first_skip _ _ _ (ap not f.sound))

  -- and it may be sent once more: only data numbers and the room are left to judge
  pub record Unspent (s : State) (c : ℕ) : Type 0 where
    pub found : Found s c
    pub below : (block_at w s.sender c).sends ≡ most_sends → ⊥

  unspent : (s : State) (c : ℕ) → Unspent s c → lowest_spent w s.sender ≡ false
  unspent s c u = spent_is w s.sender c u.found.waits ∙ ne_eqb _ _ u.below

  pub resend_used : (s : State) (tick : ℕ) (out : List ℕ) (c : ℕ) → Unspent s c → highest < s.sender.next.0 → Resent s tick out (Err UsedUp) s.sender out
  unfolding resend_answer
  resend_used s tick out c u l =
      refuses s tick out UsedUp
      (first_here _ _ _ (lt-ltb _ _ l) ∙ first_skip _ _ _ (unspent s c u) ∙ first_skip _ _ _ (ap is_none u.found.waits) ∙ first_skip _ _ _ (ap not u.found.sound))

  pub resend_full : (s : State) (tick : ℕ) (out : List ℕ) (c : ℕ) (f : Bool) → Unspent s c → s.sender.next.0 ≤ highest → f ≡ numbers_full w s.sender → f ≡ true
      → Resent s tick out (Err Full) s.sender out
  unfolding resend_answer
  resend_full s tick out c f u l g t =
      refuses s tick out Full
      (first_here _ _ _ (sym g ∙ t)
      ∙ first_skip _ _ _ (le-ltb _ _ l)
      ∙ first_skip _ _ _ (unspent s c u)
      ∙ first_skip _ _ _ (ap is_none u.found.waits)
      ∙ first_skip _ _ _ (ap not u.found.sound))

  -- past these, the room decides
  pub record Ready (s : State) (c : ℕ) : Type 0 where
    pub again : Unspent s c
    pub fresh : s.sender.next.0 ≤ highest
    pub free : numbers_full w s.sender ≡ false

  ready_room : (s : State) (c room : ℕ) → Ready s c → room_answer (resend_datagram w s) room ≡ resend_answer w w s room
  unfolding resend_answer room_answer
  ready_room s c room o =
      first_skip _ _ _ o.free
      ∙ first_skip _ _ _ (le-ltb _ _ o.fresh)
      ∙ first_skip _ _ _ (unspent s c o.again)
      ∙ first_skip _ _ _ (ap is_none o.again.found.waits)
      ∙ first_skip _ _ _ (ap not o.again.found.sound)

  module _ (s : State) (tick : ℕ) (out : List ℕ) (c : ℕ) (o : Ready s c) (d : List ℕ) (is : d ≡ resend_datagram w s) where
    said : (x : Result ℕ Refusal) → x ≡ written_of (room_answer d (length out)) d → x ≡ written_of (resend_answer w w s (length out)) (resend_datagram w s)
    said x e =
        e ∙ ap (λ (b : List ℕ). written_of (room_answer b (length out)) b) is
        ∙ ap (λ (m : ℕ). written_of m (resend_datagram w s)) (ready_room s c (length out) o)

    laid : (left : List ℕ) → left ≡ left_of (room_answer d (length out)) d out → left ≡ left_of (resend_answer w w s (length out)) (resend_datagram w s) out
    laid left e =
        e ∙ ap (λ (b : List ℕ). left_of (room_answer b (length out)) b out) is
        ∙ ap (λ (m : ℕ). left_of m (resend_datagram w s) out) (ready_room s c (length out) o)

    pub resend_roomless : (left : List ℕ) (x : Result ℕ Refusal) (n : Refusal) → x ≡ Err n → x ≡ written_of (room_answer d (length out)) d
        → left ≡ left_of (room_answer d (length out)) d out → Resent s tick out (Err n) s.sender left
    resend_roomless left x n r e g =
        let y = sym r ∙ said x e in
        record { written = y; sender = kept s tick (length out) (refused_is n _ _ y); bytes = laid left g }

    pub resend_sent : (left : List ℕ) (x : Result ℕ Refusal) (k : ℕ) (q : Sender) → x ≡ Ok k → x ≡ written_of (room_answer d (length out)) d
        → left ≡ left_of (room_answer d (length out)) d out
        → q ≡ sent_of w s.sender tick c (block_at w s.sender c).length ((block_at w s.sender c).sends + 1) s.sender.channelnext.0 → Resent s tick out (Ok k) q left
    unfolding resend_of
    resend_sent left x k q r e g u =
        let y = sym r ∙ said x e in
        record { written = y; sender = rw (eq-eqb _ _ (wrote_is k _ _ y), o.again.found.waits) u; bytes = laid left g }
