-- `taking::take` meets its contract: each way out is an instance of a law of Consistency and Taking.
use native.Mathlib.Omega.{arith}
use mathlib.Core.Path.{refl}
use Rattle.window.specs.Store.{sound_with_lem, sound_told}
use Rattle.receiver.specs.Facts.{consistent_facts}
use Rattle.taking.proofs.Taking.{taken_short, take_unsound, take_none, take_little, take_done}
use Rattle.taking.proofs.take.Goals as goal

pub returns-then-not-sound : goal.returns-then-not-sound
returns-then-not-sound c =
    let both = take_unsound 32 32 c.args.r c.args.store.now
    c.args.out.now _ (sound_with_lem 32 _ _ _ _ c.consistent.ensures c.sound.ensures)
    c.if-not-sound.true in record { answer = both.0; «record» = both.1.0; bytes = both.1.1 }

pub returns-then-h-ne1 : goal.returns-then-h-ne1
returns-then-h-ne1 c =
    let both = take_none 32 32 c.args.r
    c.args.store.now
    c.args.out.now _
    (sound_with_lem 32 _ _ _ _ c.consistent.ensures c.sound.ensures)
    c.if-not-sound.false _ c.place-at.ensures.0 c.if-h-ne1.true in record { answer = both.0; «record» = both.1.0; bytes = both.1.1 }

pub returns-then-out-n : goal.returns-then-out-n
returns-then-out-n c =
    let both = take_little 32 32 c.args.r
    c.args.store.now
    c.args.out.now _
    (sound_with_lem 32 _ _ _ _ c.consistent.ensures
    c.sound.ensures) c.if-not-sound.false _
    c.place-at.ensures.0 c.if-h-ne1.false _ refl c.if-out-n.true in record { answer = both.0; «record» = both.1.0; bytes = both.1.1 }

pub slice_bounds-lay-end : goal.slice_bounds-lay-end
slice_bounds-lay-end c =
    let t = sound_told 32 _ _ _ _ c.consistent.ensures
    c.sound.ensures c.if-not-sound.false
    in
    let l = taken_short 32 32 c.args.r _ _ (omega arith) t.0
    c.place-at.ensures.0 c.if-h-ne1.false refl in
    omega (arith, t.1, l, c.place-at.ensures.1)

pub freed-q-requires : goal.freed-q-requires
freed-q-requires c =
    (consistent_facts 32 32 _
    (sound_told 32 _ _ _ _ c.consistent.ensures
    c.sound.ensures
    c.if-not-sound.false).0).due_range

pub returns : goal.returns
returns c =
    let both = take_done 32 32 c.args.r
    c.args.store.now
    c.args.out.now _
    (sound_with_lem 32 _ _ _ _ c.consistent.ensures
    c.sound.ensures)
    c.if-not-sound.false _
    c.place-at.ensures.0
    c.if-h-ne1.false _ refl _ _ _ c.if-out-n.false
    c.lay-k.ensures c.freed-q.ensures in record { answer = both.0; «record» = both.1.0; bytes = both.1.1 }
