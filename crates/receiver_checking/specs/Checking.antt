-- What the check of a record asks of the blocks' places in their own order, besides `hold_fits`.
use Rattle.std.specs.Prelude.{ℕ, Bool, List, ltb, get_or}
use Rattle.common.specs.Every.{implies}
use Rattle.window.specs.Places.{past_of}
use Rattle.receiver.specs.declared.Hold.{Hold}
use Rattle.receiver.specs.Record.{is_held, empty}

-- a block that is held at place j is among the first room blocks from due on
unfoldable pub held_low : ℕ → List Hold → ℕ → ℕ → ℕ → Bool
held_low w holds due room j = implies (is_held (get_or holds j empty)) (ltb (past_of w due j) room)
