-- New block: a law for each way out, over any window w.
use Rattle.common.specs.declared.Refusal.{Refusal}
use Rattle.std.specs.Prelude.{Err, Ok, Result}
use Rattle.common.specs.declared.Refusal.TheVariants.{Full, TooWide, Unsound, UsedUp}
use Prim.Native.Nat.{ℕ, ◌+◌, ◌*◌, ◌%◌, ◌≤◌, ◌<◌}
use mathlib.Core.Bool.{Bool, true, false, cond, not}
use mathlib.Core.List.{List}
use mathlib.Core.Path.{◌≡◌, refl, sym, ◌∙◌, ap}
use native.Mathlib.Omega.{arith}
use lib.ListN.{length}
use lib.Dec.{eqb, leb, ltb}
use borrow.Author.Tests.{lt-ltb, le-ltb, eq-eqb, ne_eqb}
use Rattle.common.specs.Answer.{no_of, no_zero, written_of, left_of, written_refused, left_refused, room_answer}
use Rattle.common.specs.Choice.{unless}
use Rattle.common.specs.Order.{first_here, first_skip}
use Rattle.common.specs.Put.{put_of}
use Rattle.numbers.specs.Full.{highest}
use Rattle.window.specs.Store.{place_size, store_size, size_wrong, size_right}
use Rattle.sender.specs.declared.Sender.{Sender}
use Rattle.sender.specs.Record.{longest_sent, State}
use Rattle.sender.specs.Consistent.{consistent_of, sound_of}
use Rattle.sender.specs.Send.{numbers_full, sent_of, new_answer, new_datagram, new_of}
use Rattle.carrying.proofs.Told.{refused_is, wrote_is}

abbrev used_up : State → Bool
used_up s = cond (ltb highest s.sender.next.0) true (ltb highest s.sender.channelnext.0)

module _ (w : ℕ) where
  -- what a new block's call leaves: the answer, the record, the store and the buffer
  pub record Left (s : State) (tick : ℕ) (block out : List ℕ) (x : Result ℕ Refusal) (q : Sender) (store left : List ℕ) : Type 0 where
    pub written : x ≡ written_of (new_answer w w s block (length out)) (new_datagram s block)
    pub sender : q ≡ (new_of w w s tick block (length out)).sender
    pub kept : store ≡ (new_of w w s tick block (length out)).store
    pub bytes : left ≡ left_of (new_answer w w s block (length out)) (new_datagram s block) out

  record_refused : (s : State) (tick : ℕ) (block : List ℕ) (room : ℕ) → (new_answer w w s block room ≡ 0 → ⊥) → s ≡ new_of w w s tick block room
  unfolding new_of
  record_refused s tick block room h = unless _ _ _ _ (ne_eqb (new_answer w w s block room) 0 h) refl

  refuses : (s : State) (tick : ℕ) (block out : List ℕ) (x : Refusal) → no_of x ≡ new_answer w w s block (length out) → Left s tick block out (Err x) s.sender s.store out
  refuses s tick block out x e =
      let r = record_refused s tick block (length out) (λ z. no_zero x (e ∙ z)) in
      record {
        written = written_refused x _ _ e;
        sender = ap (λ (z : State). z.sender) r;
        kept = ap (λ (z : State). z.store) r;
        bytes = left_refused (no_of x) _ _ _ e (no_zero x);
      }

  abbrev is_full : State → Bool
  is_full s = cond (numbers_full w s.sender) true (leb (s.sender.channellow.0 + w) s.sender.channelnext.0)

  new_unsound : (s : State) (tick : ℕ) (block out : List ℕ) → sound_of w w s.sender (length s.store) ≡ false → Left s tick block out (Err Unsound) s.sender s.store out
  unfolding new_answer
  new_unsound s tick block out h = refuses s tick block out Unsound (first_here _ _ _ (ap not h))

  pub new_unsized : (s : State) (tick : ℕ) (block out : List ℕ) → (length s.store ≡ store_size w → ⊥) → Left s tick block out (Err Unsound) s.sender s.store out
  new_unsized s tick block out h = new_unsound s tick block out (sym (size_wrong w _ _ h))

  pub new_unfit : (s : State) (tick : ℕ) (block out : List ℕ) (r : Bool) → length s.store ≡ store_size w → r ≡ consistent_of w w s.sender → r ≡ false
      → Left s tick block out (Err Unsound) s.sender s.store out
  new_unfit s tick block out r h e t = new_unsound s tick block out (sym (size_right w _ r _ h e) ∙ t)

  pub new_long : (s : State) (tick : ℕ) (block out : List ℕ) → sound_of w w s.sender (length s.store) ≡ true → longest_sent < length block
      → Left s tick block out (Err TooWide) s.sender s.store out
  unfolding new_answer
  new_long s tick block out h l = refuses s tick block out TooWide (first_here _ _ _ (lt-ltb _ _ l) ∙ first_skip _ _ _ (ap not h))

  pub new_used : (s : State) (tick : ℕ) (block out : List ℕ) (r : Bool) → sound_of w w s.sender (length s.store) ≡ true → length block ≤ longest_sent
      → r ≡ used_up s → r ≡ true → Left s tick block out (Err UsedUp) s.sender s.store out
  unfolding new_answer
  new_used s tick block out r h l e t =
      refuses s tick block out UsedUp (first_here _ _ _ (sym e ∙ t) ∙ first_skip _ _ _ (le-ltb _ _ l) ∙ first_skip _ _ _ (ap not h))

  pub new_full : (s : State) (tick : ℕ) (block out : List ℕ) (r f : Bool) → sound_of w w s.sender (length s.store) ≡ true → length block ≤ longest_sent
      → r ≡ used_up s → r ≡ false → f ≡ is_full s → f ≡ true → Left s tick block out (Err Full) s.sender s.store out
  unfolding new_answer
  new_full s tick block out r f h l e t g u =
      refuses s tick block out Full (first_here _ _ _ (sym g ∙ u) ∙ first_skip _ _ _ (sym e ∙ t) ∙ first_skip _ _ _ (le-ltb _ _ l) ∙ first_skip _ _ _ (ap not h))

  -- past these, the room decides
  pub record Open (s : State) (block : List ℕ) : Type 0 where
    pub sound : sound_of w w s.sender (length s.store) ≡ true
    pub short : length block ≤ longest_sent
    pub fresh : used_up s ≡ false
    pub free : is_full s ≡ false

  open_room : (s : State) (block : List ℕ) (room : ℕ) → Open s block → room_answer (new_datagram s block) room ≡ new_answer w w s block room
  unfolding new_answer room_answer new_datagram
  open_room s block room o =
      first_skip _ _ _ o.free ∙ first_skip _ _ _ o.fresh ∙ first_skip _ _ _ (le-ltb _ _ o.short) ∙ first_skip _ _ _ (ap not o.sound)

  pub new_roomless : (s : State) (tick : ℕ) (block out left : List ℕ) (x : Result ℕ Refusal) (n : Refusal) → Open s block → x ≡ Err n
      → x ≡ written_of (room_answer (new_datagram s block) (length out)) (new_datagram s block)
      → left ≡ left_of (room_answer (new_datagram s block) (length out)) (new_datagram s block) out → Left s tick block out (Err n) s.sender s.store left
  new_roomless s tick block out left x n o is said g =
      let a = open_room s block (length out) o in
      let e : Err n ≡ written_of (room_answer (new_datagram s block) (length out)) (new_datagram s block) = sym is ∙ said in
      let r = record_refused s tick block (length out) (λ z. refused_is n _ _ e (a ∙ z)) in
      record {
        written = e ∙ ap (λ (m : ℕ). written_of m (new_datagram s block)) a;
        sender = ap (λ (z : State). z.sender) r;
        kept = ap (λ (z : State). z.store) r;
        bytes = g ∙ ap (λ (m : ℕ). left_of m (new_datagram s block) out) a;
      }

  pub new_sent : (s : State) (tick : ℕ) (block out left store : List ℕ) (x : Result ℕ Refusal) (k at : ℕ) (q : Sender) → Open s block → x ≡ Ok k
      → x ≡ written_of (room_answer (new_datagram s block) (length out)) (new_datagram s block)
      → left ≡ left_of (room_answer (new_datagram s block) (length out)) (new_datagram s block) out
      → at ≡ s.sender.channelnext.0 % w → store ≡ put_of s.store (at * place_size) block
      → q ≡ sent_of w s.sender tick s.sender.channelnext.0 (length block) 1 (s.sender.channelnext.0 + 1) → Left s tick block out (Ok k) q store left
  unfolding new_of
  new_sent s tick block out left store x k at q o is said g p b r =
      let a = open_room s block (length out) o in
      let e : Ok k ≡ written_of (room_answer (new_datagram s block) (length out)) (new_datagram s block) = sym is ∙ said in
      let z : eqb (new_answer w w s block (length out)) 0 ≡ true = eq-eqb _ _ (sym a ∙ wrote_is k _ _ e) in
      record {
        written = e ∙ ap (λ (m : ℕ). written_of m (new_datagram s block)) a;
        sender = rw z r;
        kept = rw z (b ∙ ap (λ (m : ℕ). put_of s.store (m * place_size) block) p);
        bytes = g ∙ ap (λ (m : ℕ). left_of m (new_datagram s block) out) a;
      }
