-- What is present, and what is not.
use Prim.Native.Nat.{ℕ}
use mathlib.Core.Bool.{Bool, true, false}
use mathlib.Core.List.{List}
use mathlib.Core.Path.{◌≡◌}
use Rattle.text.specs.Ascii.{ascii}
use Rattle.text.specs.Decimal.{decimal_of}
use Rattle.text.specs.Lines.{under}
use Rattle.text.specs.Within.{LaidWithin}
use Rattle.listing_fields.specs.Fields.{or_dash}

pub within_present : {k at r : ℕ} {d e : List ℕ} (t : Bool) (v : List ℕ) → t ≡ true → LaidWithin k v d at e r → LaidWithin k (or_dash t v) d at e r
within_present t v p l = rw p l

pub within_absent : {k at r : ℕ} {d e : List ℕ} (t : Bool) (v : List ℕ) → t ≡ false → LaidWithin k (ascii "-") d at e r
    → LaidWithin k (or_dash t v) d at e r
within_absent t v p l = rw p l

-- the whole line of what is not present
pub within_dash : {k at r : ℕ} {d e : List ℕ} (key : List ℕ) (t : Bool) (v : List ℕ) → t ≡ false → LaidWithin k (under key (ascii "-")) d at e r
    → LaidWithin k (under key (or_dash t v)) d at e r
within_dash key t v p l = rw p l

-- a number's line by the flag that its test stands for
pub within_flag : {k at r : ℕ} {d e : List ℕ} (key : List ℕ) (s t : Bool) (n : ℕ) → s ≡ t
    → LaidWithin k (under key (or_dash s (decimal_of n))) d at e r → LaidWithin k (under key (or_dash t (decimal_of n))) d at e r
within_flag key s t n p l = rw p at l
