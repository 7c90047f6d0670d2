-- The text that `lines` laid over its array is the listing.
use Prim.Native.Nat.{ℕ}
use mathlib.Core.List.{List}
use mathlib.Core.Path.{◌≡◌, ap}
use Rattle.text.specs.Within.{LaidWithin, within_as}
use Rattle.wire.specs.Read.{read_of, Reading}
use Rattle.listing.specs.Lines.{lines_for, listing_of}

pub laid_listing : (d : List ℕ) {k n : ℕ} {z e : List ℕ} {r : Reading} → r ≡ read_of d → LaidWithin k (lines_for r) z 0 e n → LaidWithin k (listing_of d) z 0 e n
unfolding listing_of
laid_listing d q l = within_as (ap lines_for q) l
