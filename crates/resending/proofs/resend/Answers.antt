-- Each way out of the resend is a law of OldBlock; on the way the size and consistency make a sound state, the search finds a block, its place says whether it may be sent
-- once more, and the tests leave only the room.
use mathlib.Core.List.{List}
use Rattle.sender.specs.declared.Sender.{Sender}
use Prim.Native.Nat.{ℕ, ◌%◌, ◌≤◌}
use mathlib.Core.Path.{◌≡◌, sym, ◌∙◌, ap}
use native.Mathlib.Omega.{arith}
use lib.ListN.{get_or}
use Rattle.window.specs.Store.{size_right}
use Rattle.sender.specs.Record.{longest_sent, most_sends, state, no_block}
use Rattle.carrying.proofs.Told.{sound_bounds}
use Rattle.resending.proofs.OldBlock.{lowest_some, block_few, part_short, datagram_is, Found}
use Rattle.resending.proofs.OldBlock.{resend_unsized, resend_unfit, resend_none, resend_spent, resend_used, resend_full, resend_roomless, resend_sent}
use Rattle.resending.proofs.resend.Goals as goal

-- the block's length and its count at its place
placed_few : (s : Sender) (b : List ℕ) (n at : ℕ) → Found 32 (state s b) n → at ≡ n % 32
    → ((get_or s.blocks at no_block).length ≤ longest_sent) × ((get_or s.blocks at no_block).sends ≤ most_sends)
placed_few s b n at f a = let h = block_few 32 _ _ _ (omega arith) f.sound f.waits in rw a h

pub returns-then-store-ne-STORE : goal.returns-then-store-ne-STORE
returns-then-store-ne-STORE c =
    let l = resend_unsized 32 (state c.args.s c.args.store.now) c.args.tick c.args.out.now c.if-store-ne-STORE.true in
    record { answer = l.written; «record» = l.sender; bytes = l.bytes }

pub returns-then-not-consistent : goal.returns-then-not-consistent
returns-then-not-consistent c =
    let l = resend_unfit 32 (state c.args.s c.args.store.now) c.args.tick c.args.out.now _ c.if-store-ne-STORE.false c.consistent.ensures c.if-not-consistent.true in
    record { answer = l.written; «record» = l.sender; bytes = l.bytes }

pub returns-in_default : goal.returns-in_default
returns-in_default c =
    let l = resend_none 32 (state c.args.s c.args.store.now) c.args.tick c.args.out.now (sym (size_right 32 _ _ _ c.if-store-ne-STORE.false c.consistent.ensures) ∙ c.if-not-consistent.false) (sym c.in_default.is ∙ c.lowest_waiting.ensures) in
    record { answer = l.written; «record» = l.sender; bytes = l.bytes }

pub returns-then-b-eq-MOST_SENDS : goal.returns-then-b-eq-MOST_SENDS
returns-then-b-eq-MOST_SENDS c =
    let l = resend_spent 32 (state c.args.s c.args.store.now) c.args.tick c.args.out.now c.in-Some.c.0 (record { sound = sym (size_right 32 _ _ _ c.if-store-ne-STORE.false c.consistent.ensures) ∙ c.if-not-consistent.false; waits = lowest_some _ _ (sym c.in-Some.is ∙ c.lowest_waiting.ensures) }) (rw c.place-at.ensures.0 at c.if-b-eq-MOST_SENDS.true) in
    record { answer = l.written; «record» = l.sender; bytes = l.bytes }

pub returns-then-next-gt-HIGHEST : goal.returns-then-next-gt-HIGHEST
returns-then-next-gt-HIGHEST c =
    let l = resend_used 32 (state c.args.s c.args.store.now) c.args.tick c.args.out.now c.in-Some.c.0 (record { found = record { sound = sym (size_right 32 _ _ _ c.if-store-ne-STORE.false c.consistent.ensures) ∙ c.if-not-consistent.false; waits = lowest_some _ _ (sym c.in-Some.is ∙ c.lowest_waiting.ensures) }; below = λ t. c.if-b-eq-MOST_SENDS.false (ap (λ (i : ℕ). (get_or c.args.s.blocks i no_block).sends) c.place-at.ensures.0 ∙ t) }) c.if-next-gt-HIGHEST.true in
    record { answer = l.written; «record» = l.sender; bytes = l.bytes }

pub at_limit-requires : goal.at_limit-requires
at_limit-requires c = (sound_bounds 32 _ _ (omega arith) (sym (size_right 32 _ _ _ c.if-store-ne-STORE.false c.consistent.ensures) ∙ c.if-not-consistent.false)).0.next

pub returns-then-at_limit : goal.returns-then-at_limit
returns-then-at_limit c =
    let l = resend_full 32 (state c.args.s c.args.store.now) c.args.tick c.args.out.now c.in-Some.c.0 _ (record { found = record { sound = sym (size_right 32 _ _ _ c.if-store-ne-STORE.false c.consistent.ensures) ∙ c.if-not-consistent.false; waits = lowest_some _ _ (sym c.in-Some.is ∙ c.lowest_waiting.ensures) }; below = λ t. c.if-b-eq-MOST_SENDS.false (ap (λ (i : ℕ). (get_or c.args.s.blocks i no_block).sends) c.place-at.ensures.0 ∙ t) }) c.if-next-gt-HIGHEST.false c.at_limit.ensures c.if-at_limit.true in
    record { answer = l.written; «record» = l.sender; bytes = l.bytes }

pub overflow_cast-length : goal.overflow_cast-length
overflow_cast-length c = let h = placed_few c.args.s c.args.store.now c.in-Some.c.0 _ (record { sound = sym (size_right 32 _ _ _ c.if-store-ne-STORE.false c.consistent.ensures) ∙ c.if-not-consistent.false; waits = lowest_some _ _ (sym c.in-Some.is ∙ c.lowest_waiting.ensures) }) c.place-at.ensures.0 in omega (arith, h.0)

pub overflow_add-start : goal.overflow_add-start
overflow_add-start c = let h = placed_few c.args.s c.args.store.now c.in-Some.c.0 _ (record { sound = sym (size_right 32 _ _ _ c.if-store-ne-STORE.false c.consistent.ensures) ∙ c.if-not-consistent.false; waits = lowest_some _ _ (sym c.in-Some.is ∙ c.lowest_waiting.ensures) }) c.place-at.ensures.0 in omega (arith, h.0, c.place-at.ensures.1)

pub slice_bounds-put_data-end : goal.slice_bounds-put_data-end
slice_bounds-put_data-end c =
    let h = placed_few c.args.s c.args.store.now c.in-Some.c.0 _ (record { sound = sym (size_right 32 _ _ _ c.if-store-ne-STORE.false c.consistent.ensures) ∙ c.if-not-consistent.false; waits = lowest_some _ _ (sym c.in-Some.is ∙ c.lowest_waiting.ensures) }) c.place-at.ensures.0 in
    let f = sound_bounds 32 _ _ (omega arith) (sym (size_right 32 _ _ _ c.if-store-ne-STORE.false c.consistent.ensures) ∙ c.if-not-consistent.false) in
    omega (arith, f.1, h.0, c.place-at.ensures.1)

pub put_data-requires : goal.put_data-requires
put_data-requires c = part_short _ _ _ (placed_few c.args.s c.args.store.now c.in-Some.c.0 _ (record { sound = sym (size_right 32 _ _ _ c.if-store-ne-STORE.false c.consistent.ensures) ∙ c.if-not-consistent.false; waits = lowest_some _ _ (sym c.in-Some.is ∙ c.lowest_waiting.ensures) }) c.place-at.ensures.0).0

pub overflow_add-b : goal.overflow_add-b
overflow_add-b c = let h = placed_few c.args.s c.args.store.now c.in-Some.c.0 _ (record { sound = sym (size_right 32 _ _ _ c.if-store-ne-STORE.false c.consistent.ensures) ∙ c.if-not-consistent.false; waits = lowest_some _ _ (sym c.in-Some.is ∙ c.lowest_waiting.ensures) }) c.place-at.ensures.0 in omega (arith, h.1)

pub returns-in-Err : goal.returns-in-Err
returns-in-Err c =
    let l = resend_roomless 32 (state c.args.s c.args.store.now) c.args.tick c.args.out.now c.in-Some.c.0 (record { again = record { found = record { sound = sym (size_right 32 _ _ _ c.if-store-ne-STORE.false c.consistent.ensures) ∙ c.if-not-consistent.false; waits = lowest_some _ _ (sym c.in-Some.is ∙ c.lowest_waiting.ensures) }; below = λ t. c.if-b-eq-MOST_SENDS.false (ap (λ (i : ℕ). (get_or c.args.s.blocks i no_block).sends) c.place-at.ensures.0 ∙ t) }; fresh = c.if-next-gt-HIGHEST.false; free = sym c.at_limit.ensures ∙ c.if-at_limit.false }) _
    (datagram_is 32 (state c.args.s c.args.store.now) c.in-Some.c.0 _ c.place-at.ensures.0 (lowest_some _ _ (sym c.in-Some.is ∙ c.lowest_waiting.ensures))) _ _ _
    c.in-Err.is c.put_data.ensures.answer c.put_data.ensures.bytes in
    record { answer = l.written; «record» = l.sender; bytes = l.bytes }

pub returns-in-Ok : goal.returns-in-Ok
returns-in-Ok c =
    let l = resend_sent 32 (state c.args.s c.args.store.now) c.args.tick c.args.out.now c.in-Some.c.0 (record { again = record { found = record { sound = sym (size_right 32 _ _ _ c.if-store-ne-STORE.false c.consistent.ensures) ∙ c.if-not-consistent.false; waits = lowest_some _ _ (sym c.in-Some.is ∙ c.lowest_waiting.ensures) }; below = λ t. c.if-b-eq-MOST_SENDS.false (ap (λ (i : ℕ). (get_or c.args.s.blocks i no_block).sends) c.place-at.ensures.0 ∙ t) }; fresh = c.if-next-gt-HIGHEST.false; free = sym c.at_limit.ensures ∙ c.if-at_limit.false }) _
    (datagram_is 32 (state c.args.s c.args.store.now) c.in-Some.c.0 _ c.place-at.ensures.0 (lowest_some _ _ (sym c.in-Some.is ∙ c.lowest_waiting.ensures))) _ _ _ _
    c.in-Ok.is c.put_data.ensures.answer c.put_data.ensures.bytes (rw c.place-at.ensures.0 at c.sent-q.ensures) in
    record { answer = l.written; «record» = l.sender; bytes = l.bytes }
