-- Taking the block due, a law for each way out.
use Rattle.common.specs.declared.Refusal.{Refusal}
use Rattle.std.specs.Prelude.{Err, Ok, Result}
use Rattle.common.specs.declared.Refusal.TheVariants.{Nothing, Room, Unsound}
use Prim.Native.Nat.{ℕ, ◌+◌, ◌-◌, ◌*◌, ◌%◌, ◌≤◌, ◌<◌}
use mathlib.Core.Bool.{Bool, true, false, not}
use mathlib.Core.List.{List}
use mathlib.Core.Path.{◌≡◌, refl, sym, ◌∙◌, ap}
use native.Mathlib.Omega.{arith}
use lib.ListN.{length, get_or, set, take, drop}
use borrow.Author.Tests.{lt-ltb, le-ltb, eq-eqb, ne_eqb}
use Rattle.common.specs.Order.{first_here, first_skip, first_none}
use Rattle.common.specs.Laid.{Laid, laid_as}
use Rattle.common.specs.Answer.{no_of, no_zero, written_of, left_of, written_refused, left_refused, written_wrote, left_wrote}
use Rattle.window.specs.Store.{place_size}
use Rattle.receiver.specs.declared.Receiver.{Receiver}
use Rattle.receiver.specs.Record.{state, empty, hold_at, contents}
use Rattle.receiver.specs.Consistent.{consistent_of, sound_of}
use Rattle.receiver.specs.Take.{take_answer, block_due, receiver_taken, taken_of}
use Rattle.receiver.specs.Facts.{consistent_facts}

pub freed_is : (w : ℕ) (r : Receiver) (at : ℕ) → at ≡ r.due.0 % w
    → record { firstdata = r.firstdata; firstchannel = r.firstchannel; base = r.base; end = r.end; due = record { 0 = r.due.0 + 1 }; marks = r.marks; holds = set r.holds at empty }
    ≡ receiver_taken w r
freed_is w r at a = rw a refl

-- a block that is held and due has at most 1,225 bytes
pub taken_short : (w cap : ℕ) (r : Receiver) (at n : ℕ) → 0 < w → consistent_of w cap r ≡ true → at ≡ r.due.0 % w → (get_or r.holds at empty).held ≡ 1
    → n ≡ (get_or r.holds at empty).length → n ≤ place_size
taken_short w cap r at n lw h a t e =
    let l = (consistent_facts w cap r h).held_short r.due.0 (omega arith) (omega arith) (eq-eqb (hold_at w r r.due.0).held 1 (rw a at t)) in
    let k : n ≡ (hold_at w r r.due.0).length = rw a at e in
    omega arith

-- an answer, a record and a buffer that are what taking answers and leaves
abbrev pub Takes : ℕ → ℕ → Receiver → List ℕ → List ℕ → Result ℕ Refusal → Receiver → List ℕ → Type 0
Takes w cap r s out x q left =
    (x ≡ written_of (take_answer w cap (state r s) (length out)) (block_due w (state r s)))
    × ((q ≡ taken_of w cap (state r s) (length out)) × (left ≡ left_of (take_answer w cap (state r s) (length out)) (block_due w (state r s)) out))

module _ (w cap : ℕ) (r : Receiver) (s out : List ℕ) where
  refused : (x : Refusal) → no_of x ≡ take_answer w cap (state r s) (length out) → Takes w cap r s out (Err x) r out
  unfolding taken_of
  refused x e = (
    written_refused x _ (block_due w (state r s)) e,
    (rw (← e, ne_eqb (no_of x) 0 (no_zero x)) refl, left_refused (no_of x) _ (block_due w (state r s)) out e (no_zero x)),
  )

  module _ (b : Bool) (sound : b ≡ sound_of w cap r (length s)) where
    pub take_unsound : b ≡ false → Takes w cap r s out (Err Unsound) r out
    unfolding take_answer
    take_unsound h = refused Unsound (first_here _ _ _ (ap not (sym sound ∙ h)))

    module _ (h : b ≡ true) (at : ℕ) (a : at ≡ r.due.0 % w) where
      pub take_none : ((get_or r.holds at empty).held ≡ 1 → ⊥) → Takes w cap r s out (Err Nothing) r out
      unfolding take_answer
      take_none t =
          let g : (hold_at w r r.due.0).held ≡ 1 → ⊥ = rw a at t in
          refused Nothing (first_here _ _ _ (ap not (ne_eqb _ 1 g)) ∙ first_skip _ _ _ (ap not (sym sound ∙ h)))

      module _ (t : (get_or r.holds at empty).held ≡ 1) (n : ℕ) (e : n ≡ (get_or r.holds at empty).length) where
        held : (hold_at w r r.due.0).held ≡ 1
        held = rw a at t

        long : n ≡ (hold_at w r r.due.0).length
        long = rw a at e

        pub take_little : length out < n → Takes w cap r s out (Err Room) r out
        unfolding take_answer
        take_little l =
            refused Room
            (first_here _ _ _ (lt-ltb (length out) (hold_at w r r.due.0).length (omega (arith, long)))
            ∙ first_skip _ _ _ (ap not (eq-eqb _ 1 held))
            ∙ first_skip _ _ _ (ap not (sym sound ∙ h)))

        pub take_done : (k : ℕ) (q : Receiver) (left : List ℕ) → n ≤ length out
            → Laid out 0 (take (at * place_size + n - at * place_size) (drop (at * place_size) s)) left k → q ≡ receiver_taken w r → Takes w cap r s out (Ok k) q left
        unfolding take_answer taken_of contents
        take_done k q left l x f =
            let m : at * place_size + n - at * place_size ≡ (hold_at w r r.due.0).length = omega (arith, long) in
            let y : Laid out 0 (block_due w (state r s)) left k = laid_as (rw (m, a) refl) x in
            let z : 0 ≡ take_answer w cap (state r s) (length out) =
            first_none
            ∙ first_skip _ _ _ (le-ltb (length out) (hold_at w r r.due.0).length (omega (arith, long)))
            ∙ first_skip _ _ _ (ap not (eq-eqb _ 1 held))
            ∙ first_skip _ _ _ (ap not (sym sound ∙ h)) in
            (written_wrote _ _ out left k z y, (rw (← z) f, left_wrote _ _ out left k z y))
