-- Places looked at in their own order: what the functions that look at one say, and what a walk over all of them says of the record.
use Prim.Native.Nat.{ℕ, zero, suc, ◌+◌, ◌-◌, ◌%◌, ◌≤◌, ◌<◌}
use mathlib.Core.Bool.{Bool, true, false, cond, not, ◌&&◌, ◌||◌}
use mathlib.Core.List.{List, [], ◌∷◌}
use mathlib.Core.Logic.{⊎_elim}
use mathlib.Core.Path.{◌≡◌, refl, sym, ◌∙◌, ap}
use native.Mathlib.Omega.{arith}
use lib.ListN.{get_or}
use lib.Dec.{eqb, leb, ltb}
use borrow.Author.Tests.{not-true, lt-ltb, leb-true, le-leb, ne_eqb}
use Rattle.common.specs.Every.{every, all_below, implies}
use Rattle.common.specs.EveryLaws.{every_at, every_made, every_none, raised, all_at, all_from, imply, implied}
use Rattle.common.specs.CountLaws.{count_short}
use Rattle.common.specs.Facts.{lt_or_ge, ltb_not, same_bool}
use Rattle.window.specs.Places.{past_of}
use Rattle.window.specs.EachPlace.{count_of, all_placed, past_from}
use Rattle.sender.specs.declared.NumberPlace.{NumberPlace}
use Rattle.sender.specs.declared.BlockPlace.{BlockPlace}
use Rattle.sender.specs.declared.Sender.{Sender}
use Rattle.sender.specs.Record.{longest_sent, most_sends, is_pending, is_acknowledged, number_passes, no_number, no_block, number_at, block_at}
use Rattle.sender.specs.Consistent.{zero_number, zero_block, block_fits, carries, number_ok, block_ok, consistent_of}
use Rattle.sender_checking.specs.Checking.{number_placed, block_placed, Marked, Walked}
use Rattle.sender.specs.PlaceTests.{zero_number_lem, number_past}
use Rattle.sender_checking.proofs.Passing.{consistent_passes, passes_consistent, Begun, data_range}
use Rattle.sender_checking.proofs.Marks.{marks_single, carries_not}

-- ONE PLACE

pub number_wrong_is : (p : NumberPlace) (past count : ℕ)
    → (leb count past && ((not (eqb p.state 0) || not (eqb p.channel.0 0)) || not (eqb p.tick 0))) ≡ not (implies (leb count past) (zero_number p))
unfolding zero_number every implies
number_wrong_is p past count = go (leb count past) (eqb p.state 0) (eqb p.channel.0 0) (eqb p.tick 0)
  where
    go : (outside state channel tick : Bool)
        → (outside && ((not state || not channel) || not tick)) ≡ not (cond outside (cond state (cond channel (cond tick true false) false) false) true)
    go true true true true = refl
    go true true true false = refl
    go true true false tick = refl
    go true false channel tick = refl
    go false state channel tick = refl

-- no state but in flight, waiting and acknowledged; in flight, and not carried once
state_wrong : (state : ℕ) (single : Bool)
    → ((eqb state 0 || ltb 3 state) || (eqb state 1 && not single)) ≡ not (cond (eqb state 1) single (cond (eqb state 2) true (eqb state 3)))
state_wrong zero single = refl
state_wrong (suc zero) single = refl
state_wrong (suc (suc zero)) single = refl
state_wrong (suc (suc (suc zero))) single = refl
state_wrong (suc (suc (suc (suc n)))) single = rw (far 0 (omega arith), lt-ltb 3 (suc (suc (suc (suc n)))) (omega arith), far 1 (omega arith), far 2 (omega arith), far 3 (omega arith)) refl
  where
    far : (k : ℕ) → k < 4 → eqb (suc (suc (suc (suc n)))) k ≡ false
    far k l = ne_eqb _ k (λ e. omega arith)

pub block_wrong_is : (b : BlockPlace) (single : Bool) (past count : ℕ)
    → ((leb count past && ((not (eqb b.state 0) || not (eqb b.length 0)) || not (eqb b.sends 0)))
    || (not (leb count past)
    && ((ltb longest_sent b.length || (ltb b.sends 1 || ltb most_sends b.sends)) || ((eqb b.state 0 || ltb 3 b.state) || (eqb b.state 1 && not single)))))
    ≡ not (block_fits b single past count)
unfolding block_fits zero_block every
block_wrong_is b single past count =
    rw (ltb_not longest_sent b.length, ltb_not b.sends 1, ltb_not most_sends b.sends, state_wrong b.state single)
    (go (leb count past) (eqb b.state 0) (eqb b.length 0) (eqb b.sends 0) (leb b.length longest_sent) (leb 1 b.sends) (leb b.sends most_sends)
    (cond (eqb b.state 1) single (cond (eqb b.state 2) true (eqb b.state 3))))
  where
    go : (outside vacant none never short begun few state : Bool)
        → ((outside && ((not vacant || not none) || not never)) || (not outside && ((not short || (not begun || not few)) || not state)))
        ≡ not (cond outside (cond vacant (cond none (cond never true false) false) false) (cond short (cond begun (cond few (cond state true false) false) false) false))
    go true true true true short begun few state = refl
    go true true true false short begun few state = refl
    go true true false never short begun few state = refl
    go true false none never short begun few state = refl
    go false vacant none never true true true true = refl
    go false vacant none never true true true false = refl
    go false vacant none never true true false state = refl
    go false vacant none never true false few state = refl
    go false vacant none never false begun few state = refl

-- THE PLACES, in their own order

pub number_placed_lem : (w : ℕ) (numbers : List NumberPlace) (low next j past count : ℕ) (r : Bool) → past ≡ past_of w low j → count ≡ count_of w low next
    → r ≡ not (implies (leb count past) (zero_number (get_or numbers j no_number))) → r ≡ not (number_placed w numbers low next j)
unfolding number_placed
number_placed_lem w numbers low next j past count r ep ec e = rw (ep, ec) at e

pub block_placed_lem : (w : ℕ) (blocks : List BlockPlace) (marks : List Bool) (low next j past count : ℕ) (r : Bool) → past ≡ past_of w low j → count ≡ count_of w low next
    → r ≡ not (block_fits (get_or blocks j no_block) (get_or marks j false) past count) → r ≡ not (block_placed w blocks marks low next j)
unfolding block_placed
block_placed_lem w blocks marks low next j past count r ep ec e = rw (ep, ec) at e

pub numbers_raised : (w : ℕ) (numbers : List NumberPlace) (low next at i : ℕ) (before flag : Bool) → i ≡ w → at ≡ low % w → before ≡ number_passes (get_or numbers at no_number)
    → flag ≡ raised before (number_placed w numbers low next) i → flag ≡ raised (number_passes (get_or numbers (low % w) no_number)) (number_placed w numbers low next) w
numbers_raised w numbers low next at i before flag ei ea eb e = rw (eb, ea, ei) at e

pub blocks_raised : (w : ℕ) (blocks : List BlockPlace) (marks : List Bool) (low next at i : ℕ) (before flag : Bool) → i ≡ w → at ≡ low % w
    → flag ≡ raised before (block_placed w blocks marks low next) i → before ≡ is_acknowledged (get_or blocks at no_block)
    → flag ≡ raised (is_acknowledged (get_or blocks (low % w) no_block)) (block_placed w blocks marks low next) w
blocks_raised w blocks marks low next at i before flag ei ea e eb = rw (eb, ea, ei) at e

-- the i-th number from low on is unused where it lies from next on
abbrev unused : ℕ → Sender → ℕ → Bool
unused w s i = implies (leb s.next.0 (s.low.0 + i)) (zero_number (number_at w s (s.low.0 + i)))

-- the walks over all places in their own order
abbrev placed_numbers : ℕ → Sender → Bool
placed_numbers w s = all_below (number_placed w s.numbers s.low.0 s.next.0) w

abbrev placed_blocks : ℕ → Sender → List Bool → Bool
placed_blocks w s marks = all_below (block_placed w s.blocks marks s.channellow.0 s.channelnext.0) w

unused_placed : (w : ℕ) (s : Sender) → all_below (unused w s) w ≡ placed_numbers w s
unfolding number_placed
unused_placed w s = all_placed w s.low.0 (unused w s) (number_placed w s.numbers s.low.0 s.next.0) λ i l. rw (past_from w s.low.0 s.next.0 i l) refl

-- the numbers below next fit, so what is left are the places past it
numbers_placed : (w : ℕ) (s : Sender) (i : ℕ) → s.low.0 + i ≡ s.next.0 → i ≤ w → all_below (number_ok w s) i ≡ true → all_below (number_ok w s) w ≡ placed_numbers w s
unfolding number_ok
numbers_placed w s i e u h = same_bool _ _ forth back ∙ unused_placed w s
  where
    past : (j : ℕ) → s.next.0 ≤ s.low.0 + j → number_ok w s j ≡ zero_number (number_at w s (s.low.0 + j))
    past j l = number_past _ _ _ _ _ _ _ l

    forth : all_below (number_ok w s) w ≡ true → all_below (unused w s) w ≡ true
    forth t = all_from (unused w s) w λ j l. imply _ _ λ q. sym (past j (leb-true _ _ q)) ∙ all_at (number_ok w s) w t j l

    back : all_below (unused w s) w ≡ true → all_below (number_ok w s) w ≡ true
    back t =
        all_from (number_ok w s) w λ j l.
        ⊎_elim
        (λ lt. all_at (number_ok w s) i h j lt)
        (λ ge. past j (omega arith) ∙ implied _ _ (all_at (unused w s) w t j l) (le-leb s.next.0 (s.low.0 + j) (omega arith)))
        (lt_or_ge j i)

-- no number past next is pending, so the marks of those before it are all
all_marked : (w : ℕ) (s : Sender) (marks : List Bool) (i : ℕ) → s.low.0 + i ≡ s.next.0 → i ≤ w → all_below (number_ok w s) w ≡ true → Marked w s marks i → Marked w s marks w
unfolding number_ok
all_marked w s marks i e u h m =
    record {
      size = m.size;
      counts = λ c l k.
          m.counts c l k
          ∙ sym (count_short (carries w s c) i w u λ j lj uj.
          carries_not w s c j (ap (λ (p : NumberPlace). is_pending p) (zero_number_lem _ (sym (number_past _ _ _ _ _ _ _ (omega arith)) ∙ all_at (number_ok w s) w h j uj))));
    }

blocks_placed : (w : ℕ) (s : Sender) (marks : List Bool) → Marked w s marks w → all_below (block_ok w s) w ≡ placed_blocks w s marks
unfolding block_ok block_fits block_placed
blocks_placed w s marks m =
    all_placed w s.channellow.0 (block_ok w s) (block_placed w s.blocks marks s.channellow.0 s.channelnext.0) λ i l.
    rw (past_from w s.channellow.0 s.channelnext.0 i l, marks_single w s marks m (s.channellow.0 + i) (omega arith) (omega arith)) refl

-- the tests that are left after the walk: the places of the lows, and all places in their own order
abbrev left_tests : ℕ → Sender → List Bool → List Bool
left_tests w s marks =
    not (number_passes (number_at w s s.low.0))
    ∷ placed_numbers w s
    ∷ not (is_acknowledged (block_at w s s.channellow.0))
    ∷ placed_blocks w s marks
    ∷ []

both : (p x k y : Bool) → not ((p || not x) || (k || not y)) ≡ every (not p ∷ x ∷ not k ∷ y ∷ [])
unfolding every
both true x k y = refl
both false true true y = refl
both false true false true = refl
both false true false false = refl
both false false k y = refl

-- The whole check: the numbers below next fit and are marked, and the two flags say of all other places whether one is wrong.
pub judged : (w : ℕ) (s : Sender) (fits : Bool) (marks : List Bool) (n b : Bool) → Begun w s → Walked w s fits marks → fits ≡ true
    → n ≡ raised (number_passes (number_at w s s.low.0)) (number_placed w s.numbers s.low.0 s.next.0) w
    → b ≡ raised (is_acknowledged (block_at w s s.channellow.0)) (block_placed w s.blocks marks s.channellow.0 s.channelnext.0) w → not (n || b) ≡ consistent_of w w s
unfolding raised
judged w s fits marks n b begun walked t en eb =
    rw (en, eb)
    (both (number_passes (number_at w s s.low.0)) (placed_numbers w s) (is_acknowledged (block_at w s s.channellow.0)) (placed_blocks w s marks)
    ∙ same_bool _ (consistent_of w w s) forth back)
  where
    i : ℕ
    i = s.next.0 - s.low.0

    e : s.low.0 + i ≡ s.next.0
    e = omega (arith, (data_range w s begun).forth)

    u : i ≤ w
    u = omega (arith, (data_range w s begun).room)

    numbers : all_below (number_ok w s) w ≡ placed_numbers w s
    numbers = numbers_placed w s i e u (walked.numbers t)

    blocks : all_below (number_ok w s) w ≡ true → all_below (block_ok w s) w ≡ placed_blocks w s marks
    blocks h = blocks_placed w s marks (all_marked w s marks i e u h (walked.marked t))

    forth : every (left_tests w s marks) ≡ true → consistent_of w w s ≡ true
    forth h =
        let r : (j : ℕ) → get_or (left_tests w s marks) j true ≡ true = every_at (left_tests w s marks) h in
        let ns : all_below (number_ok w s) w ≡ true = numbers ∙ r 1 in
        sym (passes_consistent w s (walked.numbers_sized t) (walked.blocks_sized t)
        record {
          range = begun.range;
          channels = begun.channels;
          time = begun.time;
          stands = not-true _ (r 0);
          block_stands = not-true _ (r 2);
          numbers = ns;
          blocks = blocks ns ∙ r 3;
        })

    back : consistent_of w w s ≡ true → every (left_tests w s marks) ≡ true
    back h =
        let p = consistent_passes w s h in
        every_made _ _ (ap not p.stands)
        (every_made _ _ (sym numbers ∙ p.numbers) (every_made _ _ (ap not p.block_stands) (every_made _ _ (sym (blocks p.numbers) ∙ p.blocks) every_none)))
