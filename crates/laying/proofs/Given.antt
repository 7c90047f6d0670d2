-- Bytes that are written where they are flagged, on each side of the flag.
use Prim.Native.Nat.{ℕ, ◌+◌, ◌≤◌}
use mathlib.Core.Bool.{Bool, true, false}
use mathlib.Core.List.{List, []}
use mathlib.Core.Path.{◌≡◌, refl, sym, ap}
use lib.ListN.{length}
use Rattle.common.specs.Choice.{when, unless}
use Rattle.common.specs.Laid.{Laid, laid_as, laid_nothing}
use Rattle.wire.specs.Write.{given}

given_on : (flag : Bool) (b : List ℕ) → flag ≡ true → b ≡ given flag b
given_on flag b t = when flag b b [] t refl

given_off : (flag : Bool) (b : List ℕ) → flag ≡ false → [] ≡ given flag b
given_off flag b t = unless flag [] b [] t refl

pub given_room : (flag : Bool) (b : List ℕ) (at n : ℕ) → flag ≡ true → at + length (given flag b) ≤ n → at + length b ≤ n
given_room flag b at n t h = rw (sym (given_on flag b t)) at h

pub laid_on : {d : List ℕ} {at : ℕ} {e : List ℕ} {r : ℕ} (flag : Bool) (b : List ℕ) → flag ≡ true → Laid d at b e r → Laid d at (given flag b) e r
laid_on flag b t x = laid_as (given_on flag b t) x

pub laid_off : (flag : Bool) (b d : List ℕ) (at : ℕ) → flag ≡ false → Laid d at (given flag b) d at
laid_off flag b d at t = laid_as (given_off flag b t) (laid_nothing d at)

pub laid_flag : {d : List ℕ} {at : ℕ} {e : List ℕ} {r : ℕ} (b c : Bool) (x : List ℕ) → b ≡ c → Laid d at (given b x) e r → Laid d at (given c x) e r
laid_flag b c x t l = laid_as (ap (λ (f : Bool). given f x) t) l

pub given_length : (b c : Bool) (x : List ℕ) → b ≡ c → length (given b x) ≡ length (given c x)
given_length b c x t = ap (λ (f : Bool). length (given f x)) t
