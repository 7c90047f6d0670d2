-- `arriving::receive` meets its contract: each way out is an instance of a law of Receiving.
use Rattle.std.specs.Prelude.{Ok}
use mathlib.Core.Path.{◌∙◌, ap}
use Rattle.window.specs.Store.{sound_with_lem, sound_told}
use Rattle.arriving.proofs.Receiving.{receive_unsound, receive_refused, receive_dummy, receive_judged, receive_read}
use Rattle.arriving.proofs.receive.Goals as goal

pub returns-then-not-sound : goal.returns-then-not-sound
returns-then-not-sound c =
    let both = receive_unsound _ _ _ _ _ _ (sound_with_lem 32 _ _ _ _ c.consistent.ensures c.sound.ensures) c.if-not-sound.true in
    record { answer = both.0; «record» = both.1.0; bytes = both.1.1 }

pub judge-requires : goal.judge-requires
judge-requires c = (sound_told 32 _ _ _ _ c.consistent.ensures c.sound.ensures c.if-not-sound.false).0

pub apply-q-requires-clause-r_value : goal.apply-q-requires-clause-r_value
apply-q-requires-clause-r_value c = (sound_told 32 _ _ _ _ c.consistent.ensures c.sound.ensures c.if-not-sound.false).0

pub apply-q-requires-clause-store_len : goal.apply-q-requires-clause-store_len
apply-q-requires-clause-store_len c = (sound_told 32 _ _ _ _ c.consistent.ensures c.sound.ensures c.if-not-sound.false).1

pub returns-in-Err : goal.returns-in-Err
returns-in-Err c =
    let both = receive_refused _ _ _ _ _ _ (sound_with_lem 32 _ _ _ _ c.consistent.ensures c.sound.ensures) c.if-not-sound.false _ c.read.ensures
    _ c.in-Err.is in
    record { answer = both.0; «record» = both.1.0; bytes = both.1.1 }

pub returns-in-Ok-None : goal.returns-in-Ok-None
returns-in-Ok-None c =
    let both = receive_dummy _ _ _ _ _ _ (sound_with_lem 32 _ _ _ _ c.consistent.ensures c.sound.ensures) c.if-not-sound.false _ c.read.ensures
    (c.in-Ok-None.is ∙ ap Ok c.in-Ok-None.field-0-is) in
    record { answer = both.0; «record» = both.1.0; bytes = both.1.1 }

pub returns-in-Err-judge : goal.returns-in-Err-judge
returns-in-Err-judge c =
    let both = receive_judged _ _ _ _ _ _ (sound_with_lem 32 _ _ _ _ c.consistent.ensures c.sound.ensures) c.if-not-sound.false _ c.read.ensures
    _ (c.in-Ok-Some.is ∙ ap Ok c.in-Ok-Some.field-0-is) _ (rw c.in-Err-judge.is at c.judge.ensures) in
    record { answer = both.0; «record» = both.1.0; bytes = both.1.1 }

pub returns-in-Ok : goal.returns-in-Ok
returns-in-Ok c =
    let both = receive_read _ _ _ _ _ _ (sound_with_lem 32 _ _ _ _ c.consistent.ensures c.sound.ensures) c.if-not-sound.false _ c.read.ensures
    _ (c.in-Ok-Some.is ∙ ap Ok c.in-Ok-Some.field-0-is) _ _ _ (rw c.in-Ok.is at c.judge.ensures) c.apply-q.ensures.«record» c.apply-q.ensures.bytes in
    record { answer = both.0; «record» = both.1.0; bytes = both.1.1 }
