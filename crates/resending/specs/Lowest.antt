-- The waiting block of lowest channel number, as the code hands it on.
use Rattle.std.specs.Prelude.{ℕ, Option, Some, None}
use Rattle.std.proofs.Math.Option.{Option as Found, none, some}
use Rattle.numbers.specs.declared.ChannelNumber.{ChannelNumber}

abbrev pub lowest_of : Found ℕ → Option ChannelNumber
lowest_of none = None
lowest_of (some c) = Some (record { 0 = c })
