-- Widening (document 01, "Two kinds of number", as W7 of document 02 changes it): "A 16-bit field is widened to the whole number
-- congruent to it modulo 65,536" that lies from R − 32,767 to R + 32,767, and is unclear where there is none. Nearest.antt shows
-- that this is what widen_of gives, and that nothing else would do.
use Rattle.std.specs.Prelude.{◌≡◌, ℕ, ◌+◌, ◌-◌, ◌%◌, Bool, true, cond, ◌==◌, nat_le, nat_lt, refl}
use Rattle.std.proofs.Common.{ap}
use Rattle.numbers.specs.declared.Widened.{Widened}
use Rattle.numbers.specs.declared.Widened.TheVariants.{At, Below, Unclear}
use Rattle.numbers.specs.declared.DataNumber.{DataNumber}
use Rattle.numbers.specs.declared.ChannelNumber.{ChannelNumber}

-- "A field exactly 32,768 from the reference": r + 32,768 and r − 32,768 have the same one
abbrev pub half_away : ℕ → ℕ → Bool
half_away r f = (r + 32768) % 65536 == f

-- how far below R + 32,767 the wanted number lies
abbrev pub back_of : ℕ → ℕ → ℕ
back_of r f = (r + 32767 + 65536 - f) % 65536

-- At n is the whole number n, Below m is −m
unfoldable pub widen_of : ℕ → ℕ → Widened ℕ
widen_of r f =
    cond (half_away r f) Unclear
    (cond (nat_le (back_of r f) (r + 32767)) (At (r + 32767 - back_of r f)) (Below (back_of r f - (r + 32767))))

-- "A result below the first number of its kind is out of place", and one that is unclear: "every caller refuses"
abbrev pub out_of : ℕ → Widened ℕ → Bool
out_of first (At n) = nat_lt n first
out_of first (Below m) = true
out_of first Unclear = true

-- the same number as one of a kind, and back
abbrev pub widened_as : {A B : Type 0} → (A → B) → Widened A → Widened B
widened_as f (At n) = At (f n)
widened_as f (Below m) = Below m
widened_as f Unclear = Unclear

-- a full number as one of each kind
abbrev pub data_of : ℕ → DataNumber
data_of n = record { 0 = n }

abbrev pub channel_of : ℕ → ChannelNumber
channel_of n = record { 0 = n }

-- A number of a kind, and the number that it is.
pub widened_back : {N : Type 0} (full : N → ℕ) (of : ℕ → N) → ((n : ℕ) → full (of n) ≡ n) → (a : Widened ℕ) → widened_as full (widened_as of a) ≡ a
widened_back full of h (At n) = ap At (h n)
widened_back full of h (Below m) = refl
widened_back full of h Unclear = refl
