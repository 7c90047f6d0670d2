-- What the one pass of a sweep, from the highest number down, has told once i numbers from low on are left.
use Rattle.std.specs.Prelude.{ℕ, ◌+◌, ◌%◌, ◌≤◌, ◌<◌, Bool, false, List, ◌≡◌, length, get_or}
use Rattle.sender.specs.declared.Sender.{Sender}
use Rattle.sender.specs.Sweep.{loses_at}

-- the flag at each number's place, of w, says whether it is lost, if it is pending
pub record FlagsLostIn (w : ℕ) (s : Sender) (tick : ℕ) (flags : List Bool) (i : ℕ) : Type 0 where
  pub size : length flags ≡ w
  pub holds : (n : ℕ) → s.low.0 + i ≤ n → n < s.low.0 + w → get_or flags (n % w) false ≡ loses_at w s tick n

-- the same at the window of 32
abbrev pub FlagsLost : Sender → ℕ → List Bool → ℕ → Type 0
FlagsLost s tick flags i = FlagsLostIn 32 s tick flags i
