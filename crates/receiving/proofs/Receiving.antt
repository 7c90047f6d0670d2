-- Receiving a datagram into both halves, a law for each way out.
use Rattle.std.specs.Prelude.{Err, Ok, Some, None, Result}
use Rattle.common.specs.declared.Refusal.{Refusal}
use Rattle.common.specs.declared.Refusal.TheVariants.{Unsound}
use Rattle.common.specs.Answer.{no_of, no_zero, number_of, answered_of, answered_refused, answered_accepted}
use Prim.Native.Nat.{ℕ}
use mathlib.Core.Bool.{Bool, true, false, cond}
use mathlib.Core.List.{List}
use mathlib.Core.Path.{◌≡◌, refl, sym, ◌∙◌, ap}
use lib.ListN.{length}
use lib.Dec.{eqb}
use borrow.Author.Tests.{eq-eqb, ne_eqb}
use Rattle.common.specs.Every.{every}
use Rattle.common.specs.Facts.{clash, cond_none}
use Rattle.window.specs.Store.{store_size, sound_with}
use Rattle.wire.specs.declared.Packet.{Packet}
use Rattle.wire.specs.Flags.{either, ack_in, vector_in}
use Rattle.wire.specs.Read.{read_of, Reading}
use Rattle.receiver.specs.declared.Receiver.{Receiver}
use Rattle.judging.specs.declared.Arrived.{Arrived}
use Rattle.receiver.specs.Consistent as receiver_tests
use Rattle.receiver.specs.Receive as receiver
use Rattle.receiver.specs.Record as receiving
use Rattle.judging.specs.Judge.{judged_of}
use Rattle.judging.specs.Judged.{judged_answer}
use Rattle.sender.specs.declared.Sender.{Sender}
use Rattle.acknowledging.specs.declared.Named.{Named}
use Rattle.sender.specs.Record.{remembering}
use Rattle.sender.specs.Consistent as sender_tests
use Rattle.sender.specs.Acknowledge.{acknowledging, Told, silent, told_answer, told_of, told_by}
use Rattle.turning.specs.Chosen.{chosen_by}
use Rattle.sender.specs.Turn.{turned_of}
use Rattle.acknowledging.specs.Walk.{applied_of, applied_so}
use Rattle.endpoint.specs.Receive.{Halves, halves, sound_of, packet_answer, packet_of, read_answer, read_into, receive_answer, receive_of}

-- an answer, both records and a store that are what receiving answers and leaves
abbrev pub Gives : ℕ → Sender → Receiver → List ℕ → List ℕ → Result Unit Refusal → Sender → Receiver → List ℕ → Type 0
Gives w s r store d n t q left =
    (n ≡ answered_of (receive_answer w w (halves s r store) d))
    × ((t ≡ (receive_of w w (halves s r store) d).sender)
    × ((q ≡ (receive_of w w (halves s r store) d).receiver) × (left ≡ (receive_of w w (halves s r store) d).store)))

-- the three tests of soundness, in one
sound_parts : (w : ℕ) (s : Sender) (r : Receiver) (store : List ℕ) (a b c : Bool)
    → sender_tests.consistent_of w w s ≡ a → receiver_tests.consistent_of w w r ≡ b → eqb (length store) (store_size w) ≡ c
    → sound_of w w (halves s r store) ≡ cond a (cond b c false) false
unfolding sound_of sound_with every
sound_parts w s r store a b c x y z = rw (x, y, z) (go a b c)
  where
    go : (a b c : Bool) → cond a (cond (cond b (cond c true false) false) true false) false ≡ cond a (cond b c false) false
    go false b c = refl
    go true false c = refl
    go true true false = refl
    go true true true = refl

-- a packet without an acknowledgement tells the sender nothing
silent_told : (w : ℕ) (s : Sender) (d : List ℕ) (p : Packet) → either (ack_in p.values.flags) (vector_in p.values.flags) ≡ false → s ≡ told_of w s (told_by s d p)
unfolding told_by told_of
silent_told w s d p = go (ack_in p.values.flags) (vector_in p.values.flags) _ _
  where
    go : (a b : Bool) (x y : Told) → either a b ≡ false → s ≡ told_of w s (cond a x (cond b y silent))
    go false false x y h = refl
    go false true x y h = clash true refl h
    go true b x y h = clash true refl h

-- does a packet with these flags carry an acknowledgement?
pub tells_first : (a b t : Bool) → t ≡ a → t ≡ true → true ≡ either a b
tells_first a b t h k = rw (← h, k) refl

pub tells_second : (a b t u : Bool) → t ≡ a → t ≡ false → u ≡ b → u ≡ either a b
tells_second a b t u h k l = rw (← h, k) l

module _ (w : ℕ) (s : Sender) (r : Receiver) (store d : List ℕ) where
  -- 13, three ways
  unfit : sound_of w w (halves s r store) ≡ false → Gives w s r store d (Err Unsound) s r store
  unfolding receive_answer receive_of
  unfit h = (answered_refused Unsound _ (rw h refl), (rw h refl, (rw h refl, rw h refl)))

  pub wrong_size : (length store ≡ store_size w → ⊥) → Gives w s r store d (Err Unsound) s r store
  wrong_size h =
      unfit
      (sound_parts w s r store _ _ false refl refl (ne_eqb (length store) (store_size w) h)
      ∙ ap (λ (x : Bool). cond (sender_tests.consistent_of w w s) x false) (sym (cond_none (receiver_tests.consistent_of w w r)))
      ∙ sym (cond_none (sender_tests.consistent_of w w s)))

  pub sender_unfit : sender_tests.consistent_of w w s ≡ false → Gives w s r store d (Err Unsound) s r store
  sender_unfit h = unfit (sound_parts w s r store false _ _ h refl refl)

  pub receiver_unfit : receiver_tests.consistent_of w w r ≡ false → Gives w s r store d (Err Unsound) s r store
  receiver_unfit h = unfit (sound_parts w s r store _ false _ refl h refl ∙ sym (cond_none (sender_tests.consistent_of w w s)))

  module _ (hs : sender_tests.consistent_of w w s ≡ true) (hr : receiver_tests.consistent_of w w r ≡ true) (hl : length store ≡ store_size w)
      (x : Reading) (read : x ≡ read_of d) where
    fit : sound_of w w (halves s r store) ≡ true
    fit = sound_parts w s r store true true true hs hr (eq-eqb (length store) (store_size w) hl)

    answered : read_answer w (halves s r store) d x ≡ receive_answer w w (halves s r store) d
    unfolding receive_answer
    answered = rw fit (ap (read_answer w (halves s r store) d) read)

    leaves : read_into w (halves s r store) d x ≡ receive_of w w (halves s r store) d
    unfolding receive_of
    leaves = rw fit (ap (read_into w (halves s r store) d) read)

    parts : (n : Result Unit Refusal) (t : Sender) (q : Receiver) (left : List ℕ) → n ≡ answered_of (read_answer w (halves s r store) d x)
        → halves t q left ≡ read_into w (halves s r store) d x → Gives w s r store d n t q left
    parts n t q left a e = (
      a ∙ ap answered_of answered,
      (ap (λ (y : Halves). y.sender) (e ∙ leaves), (ap (λ (y : Halves). y.receiver) (e ∙ leaves), ap (λ (y : Halves). y.store) (e ∙ leaves))),
    )

    pub read_refused : (n : Refusal) → x ≡ Err n → Gives w s r store d (Err n) s r store
    unfolding read_answer read_into
    read_refused n e = parts (Err n) s r store (answered_refused n _ (rw e refl)) (rw e refl)

    pub read_dummy : x ≡ Ok None → Gives w s r store d (Ok tt) s r store
    unfolding read_answer read_into
    read_dummy e = parts (Ok tt) s r store (answered_accepted _ (rw e refl)) (rw e refl)

    module _ (p : Packet) (e : x ≡ Ok (Some p)) (named : Result Named Refusal) (told : number_of named ≡ told_answer s (told_by s d p)) where
      -- a packet's answer, and what it leaves
      packet_gives : (n : Result Unit Refusal) (t : Sender) (q : Receiver) (left : List ℕ) → n ≡ answered_of (packet_answer w (halves s r store) d p)
          → halves t q left ≡ packet_of w (halves s r store) d p → Gives w s r store d n t q left
      unfolding read_answer read_into
      packet_gives n t q left a b =
          parts n t q left (a ∙ ap (λ (y : Reading). answered_of (read_answer w (halves s r store) d y)) (sym e)) (b ∙ ap (read_into w (halves s r store) d) (sym e))

      pub told_refused : (n : Refusal) → named ≡ Err n → Gives w s r store d (Err n) s r store
      unfolding packet_answer packet_of
      told_refused n h =
          let m : no_of n ≡ told_answer s (told_by s d p) = ap number_of (sym h) ∙ told in
          let z : eqb (told_answer s (told_by s d p)) 0 ≡ false = ap (λ (k : ℕ). eqb k 0) (sym m) ∙ ne_eqb (no_of n) 0 (no_zero n) in
          packet_gives (Err n) s r store (answered_refused n _ (rw z m)) (rw (z, z) refl)

      module _ (k : Named) (so : named ≡ Ok k) (a : Result Arrived Refusal) (judged : a ≡ judged_of w r p.values) where
        accepted_first : eqb (told_answer s (told_by s d p)) 0 ≡ true
        accepted_first = ap (λ (n : ℕ). eqb n 0) (sym (ap number_of (sym so) ∙ told))

        answer_is : number_of a ≡ receiver.values_answer w r d p
        answer_is = ap number_of judged ∙ judged_answer w r d p

        pub number_refused : (n : Refusal) → a ≡ Err n → Gives w s r store d (Err n) s r store
        unfolding packet_answer packet_of
        number_refused n h =
            let m : no_of n ≡ receiver.values_answer w r d p = ap number_of (sym h) ∙ answer_is in
            let z : eqb (receiver.values_answer w r d p) 0 ≡ false = ap (λ (n : ℕ). eqb n 0) (sym m) ∙ ne_eqb (no_of n) 0 (no_zero n) in
            packet_gives (Err n) s r store (answered_refused n _ (rw accepted_first m)) (rw (accepted_first, z) refl)

        accepted : (t : Sender) (q : Receiver) (left : List ℕ) (b : Arrived) → a ≡ Ok b → t ≡ told_of w s (told_by s d p)
            → q ≡ (receiver.values_of w (receiving.state r store) d p).receiver → left ≡ (receiver.values_of w (receiving.state r store) d p).store
            → Gives w s r store d (Ok tt) (remembering p.values.logwindow t) q left
        unfolding packet_answer packet_of
        accepted t q left b h u v y =
            let m : 0 ≡ receiver.values_answer w r d p = ap number_of (sym h) ∙ answer_is in
            let z : eqb (receiver.values_answer w r d p) 0 ≡ true = ap (λ (n : ℕ). eqb n 0) (sym m) in
            packet_gives (Ok tt) (remembering p.values.logwindow t) q left (answered_accepted _ (rw accepted_first m))
            (rw (accepted_first, z, u, v, y) refl)

        pub accepted_silent : (q : Receiver) (left : List ℕ) (b : Arrived) (f : Bool) → a ≡ Ok b → f ≡ either (ack_in p.values.flags) (vector_in p.values.flags) → f ≡ false
            → q ≡ (receiver.values_of w (receiving.state r store) d p).receiver → left ≡ (receiver.values_of w (receiving.state r store) d p).store
            → Gives w s r store d (Ok tt) (remembering p.values.logwindow s) q left
        accepted_silent q left b f h t g v y = accepted s q left b h (silent_told w s d p (sym t ∙ g)) v y

        pub accepted_told : (t : Sender) (q : Receiver) (left : List ℕ) (b : Arrived) → a ≡ Ok b → applied_of w s named ≡ told_of w s (told_by s d p)
            → t ≡ turned_of w acknowledging (chosen_by w k.flags k.upto) s
            → q ≡ (receiver.values_of w (receiving.state r store) d p).receiver → left ≡ (receiver.values_of w (receiving.state r store) d p).store
            → Gives w s r store d (Ok tt) (remembering p.values.logwindow t) q left
        accepted_told t q left b h u c v y = accepted t q left b h (c ∙ sym (applied_so w s k) ∙ ap (applied_of w s) (sym so) ∙ u) v y
