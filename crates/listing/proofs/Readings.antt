-- The lines of what was read, a law for each way out.
use Rattle.wire.specs.Read.{Reading}
use Rattle.std.specs.Prelude.{Err, Ok, Some, None}
use Rattle.common.specs.declared.Refusal.{Refusal}
use Rattle.common.specs.Answer.{no_of}
use Prim.Native.Nat.{ℕ}
use mathlib.Core.List.{◌++◌}
use mathlib.Core.Path.{◌≡◌, refl}
use Rattle.text.specs.Ascii.{ascii}
use Rattle.text.specs.Decimal.{decimal_of}
use Rattle.text.specs.Lines.{under}
use Rattle.wire.specs.declared.Packet.{Packet}
use Rattle.listing_packet.specs.Lines.{packet_lines}
use Rattle.listing.specs.Lines.{lines_for}

pub refused_lines : {r : Reading} {e : Refusal} {n : ℕ} → r ≡ Err e → n ≡ no_of e → under (ascii "answer=") (decimal_of n) ≡ lines_for r
unfolding lines_for
refused_lines q h = rw (q, h) refl

pub dummy_lines : {r : Reading} → r ≡ Ok None
    → under (ascii "answer=") (decimal_of 0) ++ under (ascii "type=") (decimal_of 8) ≡ lines_for r
unfolding lines_for
dummy_lines e = rw e refl

pub read_lines : {r : Reading} {p : Packet} → r ≡ Ok (Some p) → packet_lines p ≡ lines_for r
unfolding lines_for
read_lines e = rw e refl
