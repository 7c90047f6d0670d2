-- What a caller of `lines` can count on.
use Rattle.std.specs.Prelude.{ℕ, ◌≤◌, List, ◌≡◌, Ok}
use Rattle.common.specs.Answer.{written_of}
use Rattle.text.specs.Within.{wrote_fits}
use Rattle.listing.specs.Lines.{listing_of, answer_of}

-- what was written fits
pub written_fits : (k room : ℕ) (d : List ℕ) → Ok k ≡ written_of (answer_of d room) (listing_of d) → k ≤ room
unfolding answer_of
written_fits k room d w = wrote_fits k room (listing_of d) w
