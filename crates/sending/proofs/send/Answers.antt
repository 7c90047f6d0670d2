-- Each way out of the new block's call is a law of NewBlock; on the way the size and consistency make a sound state, and the tests leave only the room.
use mathlib.Core.Path.{sym, ◌∙◌}
use native.Mathlib.Omega.{arith}
use Rattle.window.specs.Store.{size_right}
use Rattle.sender.specs.Record.{state}
use Rattle.sender.specs.Send.{new_datagram}
use Rattle.carrying.proofs.Told.{sound_bounds}
use Rattle.sending.proofs.NewBlock.{new_unsized, new_unfit, new_long, new_used, new_full, new_roomless, new_sent}
use Rattle.sending.proofs.send.Goals as goal

pub returns-then-store-ne-STORE : goal.returns-then-store-ne-STORE
returns-then-store-ne-STORE c =
    let l = new_unsized 32 (state c.args.s c.args.store.now) c.args.tick c.args.block.now c.args.out.now c.if-store-ne-STORE.true in
    record { answer = l.written; «record» = l.sender; kept = l.kept; bytes = l.bytes }

pub returns-then-not-consistent : goal.returns-then-not-consistent
returns-then-not-consistent c =
    let l = new_unfit 32 (state c.args.s c.args.store.now) c.args.tick c.args.block.now c.args.out.now _ c.if-store-ne-STORE.false c.consistent.ensures c.if-not-consistent.true in
    record { answer = l.written; «record» = l.sender; kept = l.kept; bytes = l.bytes }

pub returns-then-block-gt-LONGEST_BLOCK : goal.returns-then-block-gt-LONGEST_BLOCK
returns-then-block-gt-LONGEST_BLOCK c =
    let l = new_long 32 (state c.args.s c.args.store.now) c.args.tick c.args.block.now c.args.out.now (sym (size_right 32 _ _ _ c.if-store-ne-STORE.false c.consistent.ensures) ∙ c.if-not-consistent.false) c.if-block-gt-LONGEST_BLOCK.true in
    record { answer = l.written; «record» = l.sender; kept = l.kept; bytes = l.bytes }

pub returns-then-used_up : goal.returns-then-used_up
returns-then-used_up c =
    let l = new_used 32 (state c.args.s c.args.store.now) c.args.tick c.args.block.now c.args.out.now _ (sym (size_right 32 _ _ _ c.if-store-ne-STORE.false c.consistent.ensures) ∙ c.if-not-consistent.false) c.if-block-gt-LONGEST_BLOCK.false c.used_up.ensures c.if-used_up.true in
    record { answer = l.written; «record» = l.sender; kept = l.kept; bytes = l.bytes }

pub full-requires : goal.full-requires
full-requires c =
    let f = sound_bounds 32 _ _ (omega arith) (sym (size_right 32 _ _ _ c.if-store-ne-STORE.false c.consistent.ensures) ∙ c.if-not-consistent.false) in
    (f.0.next, omega (arith, f.0.channelnext, f.0.channelfull))

pub returns-then-full : goal.returns-then-full
returns-then-full c =
    let l = new_full 32 (state c.args.s c.args.store.now) c.args.tick c.args.block.now c.args.out.now _ _ (sym (size_right 32 _ _ _ c.if-store-ne-STORE.false c.consistent.ensures) ∙ c.if-not-consistent.false) c.if-block-gt-LONGEST_BLOCK.false c.used_up.ensures c.if-used_up.false
    c.full.ensures c.if-full.true in
    record { answer = l.written; «record» = l.sender; kept = l.kept; bytes = l.bytes }

pub overflow_add-channel : goal.overflow_add-channel
overflow_add-channel c =
    let f = sound_bounds 32 _ _ (omega arith) (sym (size_right 32 _ _ _ c.if-store-ne-STORE.false c.consistent.ensures) ∙ c.if-not-consistent.false) in
    omega (arith, f.0.channelfull)

pub sent-q-requires : goal.sent-q-requires
sent-q-requires c = (sound_bounds 32 _ _ (omega arith) (sym (size_right 32 _ _ _ c.if-store-ne-STORE.false c.consistent.ensures) ∙ c.if-not-consistent.false)).0.full

pub returns-in-Err : goal.returns-in-Err
unfolding new_datagram
returns-in-Err c =
    let l = new_roomless 32 (state c.args.s c.args.store.now) c.args.tick c.args.block.now c.args.out.now _ _ _ (record { sound = sym (size_right 32 _ _ _ c.if-store-ne-STORE.false c.consistent.ensures) ∙ c.if-not-consistent.false; short = c.if-block-gt-LONGEST_BLOCK.false; fresh = sym c.used_up.ensures ∙ c.if-used_up.false; free = sym c.full.ensures ∙ c.if-full.false }) c.in-Err.is
    c.put_data.ensures.answer c.put_data.ensures.bytes in
    record { answer = l.written; «record» = l.sender; kept = l.kept; bytes = l.bytes }

pub returns-in-Ok : goal.returns-in-Ok
unfolding new_datagram
returns-in-Ok c =
    let l = new_sent 32 (state c.args.s c.args.store.now) c.args.tick c.args.block.now c.args.out.now _ _ _ _ _ _ (record { sound = sym (size_right 32 _ _ _ c.if-store-ne-STORE.false c.consistent.ensures) ∙ c.if-not-consistent.false; short = c.if-block-gt-LONGEST_BLOCK.false; fresh = sym c.used_up.ensures ∙ c.if-used_up.false; free = sym c.full.ensures ∙ c.if-full.false }) c.in-Ok.is c.put_data.ensures.answer c.put_data.ensures.bytes
    c.place-at.ensures.0 c.put.ensures c.sent-q.ensures in
    record { answer = l.written; «record» = l.sender; kept = l.kept; bytes = l.bytes }
