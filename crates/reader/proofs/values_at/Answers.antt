-- `reader::values_at` meets its contract: each way out is an instance of a law of Places.
use native.Mathlib.Omega.{arith}
use mathlib.Core.Path.{refl, ◌∙◌, ap}
use Prim.Native.Nat.{ℕ, ◌/◌}
use Rattle.wire.specs.Frame.{swapped, byte_at, word_at}
use Rattle.wire.specs.Layout.{ack_at, no_ack, delay_at, no_delay, vector_at, no_vector, values_of}
use Rattle.reader.proofs.Places.{moved}
use Rattle.reader.proofs.values_at.Goals as goal

pub word_if-channel-requires : goal.word_if-channel-requires
word_if-channel-requires c = (c.requires.in_bounds.0, omega (arith, c.requires.in_bounds.5))

pub returns : goal.returns
unfolding values_of
returns c = let p = swapped c.args.d.now in
    let at = c.requires.places in
    λ i. record {
      flags = c.args.flags;
      logwindow = (c.logwindow_of-logwindow.ensures ∙ ap (λ (n : ℕ). n / 4096) c.requires.header_value) i;
      ack = moved (ack_at p) no_ack _ _ _ 3 3 c.read_ack-ack.ensures c.flag.ensures refl i;
      overhead = moved (byte_at p) 0 _ _ _ _ _ c.byte_if-overhead.ensures c.flag-2.ensures at.ack i;
      delay = moved (delay_at p) no_delay _ _ _ _ _ c.read_delay-delay.ensures c.flag-3.ensures at.overhead i;
      aoa = moved (word_at p) 0 _ _ _ _ _ c.word_if-aoa.ensures c.flag-4.ensures at.delay i;
      number = moved (word_at p) 0 _ _ _ _ _ c.word_if-number.ensures c.flag-content.ensures at.aoa i;
      vector = moved (vector_at p) no_vector _ _ _ _ _ c.read_vector-vector.ensures c.flag-5.ensures at.number i;
      channel = moved (word_at p) 0 _ _ _ _ _ c.word_if-channel.ensures c.flag-content.ensures at.vector i;
    }
