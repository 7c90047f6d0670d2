-- Sweep: "judged on the record at entry, a pending number is lost if three or more higher numbers in range are received, or its age reaches the timeout. Its block
-- waits. The answer is how many became lost."
use Rattle.std.specs.Prelude.{ℕ, ◌+◌, Bool, true, cond, not, [], ◌∷◌, eqb, leb, ltb}
use Rattle.common.specs.Every.{every, count_below}
use Rattle.common.specs.Order.{test, first}
use Rattle.numbers.specs.Age.{reaches}
use Rattle.sender.specs.declared.Sender.{Sender}
use Rattle.sender.specs.Record.{lost, waiting, is_pending, is_received, number_at}
use Rattle.sender.specs.Consistent.{consistent_of}
use Rattle.sender.specs.Turn.{Turn, turned_of}

abbrev pub losing : Turn
losing = record { number = lost; block = waiting }

-- is the i-th number from low on in range, above n and received?
unfoldable pub above : ℕ → Sender → ℕ → ℕ → Bool
above w s n i =
    every (ltb n (s.low.0 + i) ∷ ltb (s.low.0 + i) s.next.0 ∷ is_received (number_at w s (s.low.0 + i)) ∷ [])

-- how many higher numbers in range are received
unfoldable pub higher_received : ℕ → Sender → ℕ → ℕ
higher_received w s n = count_below (above w s n) w

-- is number n lost at this tick, if it is pending?
unfoldable pub loses_at : ℕ → Sender → ℕ → ℕ → Bool
loses_at w s tick n = cond (leb 3 (higher_received w s n)) true (reaches s.timeout tick (number_at w s n).tick)

-- does the i-th number from low on become lost?
unfoldable pub becomes_lost : ℕ → Sender → ℕ → ℕ → Bool
becomes_lost w s tick i = every (is_pending (number_at w s (s.low.0 + i)) ∷ loses_at w s tick (s.low.0 + i) ∷ [])

-- "Sweep: 13."
unfoldable pub sweep_answer : ℕ → ℕ → Sender → ℕ
sweep_answer w cap s = first (test (not (consistent_of w cap s)) 13 ∷ [])

unfoldable pub sweep_of : ℕ → ℕ → Sender → ℕ → Sender
sweep_of w cap s tick = cond (eqb (sweep_answer w cap s) 0) (turned_of w losing (loses_at w s tick) s) s

-- how many became lost
unfoldable pub sweep_count : ℕ → ℕ → Sender → ℕ → ℕ
sweep_count w cap s tick = cond (eqb (sweep_answer w cap s) 0) (count_below (becomes_lost w s tick) w) 0
