-- A walk over the numbers in range: what holds on its way, and a law for its begin, for each number and for its end.
use Prim.Native.Nat.{ℕ, ◌+◌, ◌-◌, ◌%◌, ◌≤◌, ◌<◌}
use mathlib.Core.Bool.{Bool, true, false, not, ◌&&◌, ◌||◌}
use mathlib.Core.List.{List}
use mathlib.Core.Logic.{⊎_elim}
use mathlib.Core.Path.{◌≡◌, refl, sym, ◌∙◌, ap, subst}
use native.Mathlib.Omega.{arith}
use lib.ListN.{length, get_or, set, replicate}
use lib.Seq.{set-get_or}
use Rattle.common.specs.Every.{all_below}
use Rattle.common.specs.EveryLaws.{all_none, all_more}
use Rattle.common.specs.Facts.{clash, bool}
use Rattle.sender.specs.declared.Sender.{Sender}
use Rattle.sender.specs.Record.{is_pending, is_in_flight, no_number, no_block}
use Rattle.sender.specs.Consistent.{number_fits, number_ok, consistent_of}
use Rattle.sender_checking.specs.Checking.{Ranges, Marked, Walked}
use Rattle.sender_checking.proofs.Passing.{range_facts}
use Rattle.sender_checking.proofs.Marks.{mark_none, mark_pending, mark_other, mark_twice, number_judged_lem}
use Rattle.sender_checking.proofs.Judged.{bad_number, bad_blocks}

-- the first i numbers fit and are marked
pub record Walking (w : ℕ) (s : Sender) (marks : List Bool) (i : ℕ) : Type 0 where
  pub within : i ≤ s.next.0 - s.low.0
  pub numbers : all_below (number_ok w s) i ≡ true
  pub marked : Marked w s marks i

pub walk_none : (w : ℕ) (s : Sender) (i : ℕ) → i ≡ 0 → Walking w s (replicate w false) i
walk_none w s i e =
    subst (λ (k : ℕ). Walking w s (replicate w false) k) (sym e) (record { within = omega arith; numbers = all_none (number_ok w s); marked = mark_none w s })

-- a number that does not fit ends the walk, and so does next
pub walk_stopped : (w : ℕ) (s : Sender) (marks : List Bool) → false ≡ consistent_of w w s → Walked w s false marks
walk_stopped w s marks h =
    record {
      stops = λ t. h;
      numbers_sized = λ t. clash false t refl;
      blocks_sized = λ t. clash false t refl;
      numbers = λ t. clash false t refl;
      marked = λ t. clash false t refl;
    }

pub walk_end : (w : ℕ) (s : Sender) (marks : List Bool) (n : ℕ) → s.next.0 ≤ n → Walking w s marks (n - s.low.0) → length s.numbers ≡ w → length s.blocks ≡ w → Walked w s true marks
walk_end w s marks n l h ns bs =
    let e : n - s.low.0 ≡ s.next.0 - s.low.0 = omega (arith, h.within) in
    record {
      stops = λ t. clash true refl t;
      numbers_sized = λ t. ns;
      blocks_sized = λ t. bs;
      numbers = λ t. subst (λ (k : ℕ). all_below (number_ok w s) k ≡ true) e h.numbers;
      marked = λ t. subst (λ (k : ℕ). Marked w s marks k) e h.marked;
    }

both_first : (a b : Bool) → (a && b) ≡ true → a ≡ true
both_first true b e = refl
both_first false b e = e

abbrev RangesOf : ℕ → Sender → Type 0
RangesOf w s = Ranges w s.low.0 s.next.0 s.firstchannel.0 s.channellow.0 s.channelnext.0

-- One test refuses, or the other two together.
refusal : (r x y : Bool) (A : Type 0) → (r ≡ false → A) → (r ≡ true → x ≡ true → y ≡ true → A) → (r && not (x && y)) ≡ false → A
refusal true true true A f g e = g refl refl refl
refusal true true false A f g e = clash true refl e
refusal true false y A f g e = clash true refl e
refusal false x y A f g e = f refl

unmarked : (r x y : Bool) → (r && not (x && y)) ≡ true → x ≡ true → y ≡ false
unmarked true true true e h = clash false e refl
unmarked true true false e h = refl
unmarked true false y e h = clash false h refl
unmarked false x y e h = clash false e refl

or_true : (y x : Bool) → y ≡ false → x ≡ true → (y || x) ≡ true
or_true y x e h = rw (e, h) refl

or_false : (y x : Bool) → x ≡ false → (y || x) ≡ y
or_false true x h = refl
or_false false x h = h

-- Number n, at place m, whose block is at place k; r is whether it fits.
module _ (w : ℕ) (s : Sender) (marks : List Bool) (n m k : ℕ) (r : Bool) (ranges : RangesOf w s) (least : s.low.0 ≤ n) (most : n < s.next.0) (place : m ≡ n % w)
    (ek : k ≡ (get_or s.numbers m no_number).channel.0 % w)
    (er : r ≡ number_fits (get_or s.numbers m no_number) (is_in_flight (get_or s.blocks k no_block)) 0 1 s.firstchannel.0 s.channellow.0 s.channelnext.0)
    (h : Walking w s marks (n - s.low.0)) where
  abbrev pending : Bool
  pending = is_pending (get_or s.numbers m no_number)

  abbrev marked : Bool
  marked = get_or marks k false

  abbrev goes_on : Bool
  goes_on = r && not (pending && marked)

  abbrev i : ℕ
  i = n - s.low.0

  l : i < s.next.0 - s.low.0
  l = omega arith

  em : m ≡ (s.low.0 + i) % w
  em = let e : n ≡ s.low.0 + i = omega arith in place ∙ ap (λ (x : ℕ). x % w) e

  ok : (t : Bool) → r ≡ t → number_ok w s i ≡ t
  ok t e = let q = l in number_judged_lem w s i r t (omega (arith, ranges.forth)) (rw (ek, em) at er) e

  inside : i < w
  inside = let q = l in omega (arith, ranges.room)

  twice : r ≡ true → pending ≡ true → marked ≡ true → false ≡ consistent_of w w s
  twice e p t =
      bad_blocks w s (mark_twice w s marks i inside (range_facts _ _ _ _ ranges.channels) (ok true e) h.marked (rw em at p) (rw (ek, em) at t))

  mark : goes_on ≡ true → Marked w s (set marks k (marked || pending)) (i + 1)
  mark e = ⊎_elim first other (bool pending)
    where
      first : pending ≡ true → Marked w s (set marks k (marked || pending)) (i + 1)
      first p =
          let t : marked ≡ false = unmarked r pending marked e p in
          rw (or_true marked pending t p)
          (rw (ek, em) (mark_pending w s marks i (range_facts _ _ _ _ ranges.channels) (ok true (both_first r _ e)) h.marked (rw em at p) (rw (ek, em) at t)))

      other : pending ≡ false → Marked w s (set marks k (marked || pending)) (i + 1)
      other p = rw (or_false marked pending p, set-get_or marks k false) (mark_other w s marks i h.marked (rw em at p))

  pub walk_stops : (any : List Bool) → goes_on ≡ false → Walked w s false any
  walk_stops any e = walk_stopped w s any (refusal r pending marked _ (λ t. bad_number w s i inside (ok false t)) twice e)

  pub walk_more : goes_on ≡ true → Walking w s (set marks k (marked || pending)) (n + 1 - s.low.0)
  walk_more e =
      let q = l in
      let z : i + 1 ≡ n + 1 - s.low.0 = omega arith in
      subst (λ (x : ℕ). Walking w s (set marks k (marked || pending)) x) z
      (record { within = omega arith; numbers = all_more (number_ok w s) i h.numbers (ok true (both_first r _ e)); marked = mark e })
