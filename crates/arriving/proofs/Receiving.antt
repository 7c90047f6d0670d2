-- Receiving a datagram, a law for each way out.
use Rattle.std.specs.Prelude.{Result, Err, Ok, Some, None}
use Prim.Native.Nat.{ℕ}
use mathlib.Core.Bool.{Bool, true, false}
use mathlib.Core.List.{List}
use mathlib.Core.Path.{◌≡◌, refl, sym, ◌∙◌, ap}
use lib.ListN.{length}
use Rattle.common.specs.declared.Refusal.{Refusal}
use Rattle.common.specs.declared.Refusal.TheVariants.{Unsound}
use Rattle.common.specs.Answer.{number_of, answered_of, answered_refused, answered_accepted}
use Rattle.wire.specs.declared.Packet.{Packet as WirePacket}
use Rattle.wire.specs.Read.{read_of, Reading}
use Rattle.wire.specs.Same.{body_in}
use Rattle.receiver.specs.declared.Receiver.{Receiver}
use Rattle.judging.specs.declared.Arrived.{Arrived}
use Rattle.receiver.specs.Record.{State, state}
use Rattle.receiver.specs.Consistent.{sound_of}
use Rattle.receiver.specs.Receive.{values_of, read_answer, read_into, receive_answer, receive_of}
use Rattle.judging.specs.Judge.{judged_of, left_by}
use Rattle.judging.specs.Judged.{judged_answer, judged_leaves}

-- an answer, a record and a store that are what receiving answers and leaves
abbrev pub Gives : ℕ → ℕ → Receiver → List ℕ → List ℕ → Result Unit Refusal → Receiver → List ℕ → Type 0
Gives w cap r s d n q left =
    (n ≡ answered_of (receive_answer w cap (state r s) d))
    × ((q ≡ (receive_of w cap (state r s) d).receiver) × (left ≡ (receive_of w cap (state r s) d).store))

module _ (w cap : ℕ) (r : Receiver) (s d : List ℕ) (b : Bool) (sound : b ≡ sound_of w cap r (length s)) where
  pub receive_unsound : b ≡ false → Gives w cap r s d (Err Unsound) r s
  unfolding receive_answer receive_of
  receive_unsound h = let q : sound_of w cap r (length s) ≡ false = sym sound ∙ h in (answered_refused Unsound _ (rw q refl), (rw q refl, rw q refl))

  module _ (h : b ≡ true) (x : Reading) (read : x ≡ read_of d) where
    answered : read_answer w r d x ≡ receive_answer w cap (state r s) d
    unfolding receive_answer
    answered = let q : sound_of w cap r (length s) ≡ true = sym sound ∙ h in rw q (ap (read_answer w r d) read)

    leaves : read_into w (state r s) d x ≡ receive_of w cap (state r s) d
    unfolding receive_of
    leaves = let q : sound_of w cap r (length s) ≡ true = sym sound ∙ h in rw q (ap (read_into w (state r s) d) read)

    parts : (n : Result Unit Refusal) (q : Receiver) (left : List ℕ) → n ≡ answered_of (read_answer w r d x)
        → state q left ≡ read_into w (state r s) d x → Gives w cap r s d n q left
    parts n q left a e = (a ∙ ap answered_of answered, (ap (λ (y : State). y.receiver) (e ∙ leaves), ap (λ (y : State). y.store) (e ∙ leaves)))

    pub receive_refused : (n : Refusal) → x ≡ Err n → Gives w cap r s d (Err n) r s
    unfolding read_answer read_into
    receive_refused n e = parts (Err n) r s (answered_refused n _ (rw e refl)) (rw e refl)

    pub receive_dummy : x ≡ Ok None → Gives w cap r s d (Ok tt) r s
    unfolding read_answer read_into
    receive_dummy e = parts (Ok tt) r s (answered_accepted _ (rw e refl)) (rw e refl)

    module _ (p : WirePacket) (e : x ≡ Ok (Some p)) where
      -- what was judged has the answer's number
      numbered : number_of (judged_of w r p.values) ≡ read_answer w r d x
      unfolding read_answer
      numbered = judged_answer w r d p ∙ ap (read_answer w r d) (sym e)

      pub receive_judged : (n : Refusal) → Err n ≡ judged_of w r p.values → Gives w cap r s d (Err n) r s
      unfolding read_into left_by
      receive_judged n j =
          parts (Err n) r s (answered_refused n _ (ap (number_of {A = Arrived}) j ∙ numbered))
          (ap (left_by w (state r s) (body_in d p)) j ∙ judged_leaves w (state r s) d p ∙ ap (read_into w (state r s) d) (sym e))

      pub receive_read : (a : Arrived) (q : Receiver) (left : List ℕ) → Ok a ≡ judged_of w r p.values
          → q ≡ (values_of w (state r s) d p).receiver → left ≡ (values_of w (state r s) d p).store → Gives w cap r s d (Ok tt) q left
      unfolding read_into
      receive_read a q left j y z =
          parts (Ok tt) q left (answered_accepted _ (ap (number_of {A = Arrived}) j ∙ numbered))
          (ap (λ (o : Receiver). state o left) y ∙ ap (state (values_of w (state r s) d p).receiver) z ∙ ap (read_into w (state r s) d) (sym e))
