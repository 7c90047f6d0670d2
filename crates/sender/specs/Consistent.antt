-- What makes the sender's half of a record inconsistent, in document 01's words, as a list of tests that a consistent record passes.
-- w places are in use, of cap that the arrays have.
use Rattle.std.specs.Prelude.{ℕ, ◌+◌, Bool, true, cond, not, List, [], ◌∷◌, length, get_or, eqb, leb, ltb}
use Rattle.common.specs.Every.{every, all_below, count_below, implies}
use Rattle.numbers.specs.Full.{past_highest, highest_first}
use Rattle.window.specs.Store.{sound_with}
use Rattle.sender.specs.declared.NumberPlace.{NumberPlace}
use Rattle.sender.specs.declared.BlockPlace.{BlockPlace}
use Rattle.sender.specs.declared.Sender.{Sender}
use Rattle.sender.specs.Record.{shortest_timeout, longest_timeout, longest_sent, most_sends, is_pending, is_in_flight, is_waiting, is_acknowledged, number_passes, no_number, no_block, number_at, block_at}

-- "a first .. is outside opening's range"; ".. a next or a low is below its first or above 4,294,967,296"; "one of the sender's two ranges exceeds 32
-- or runs backwards"
abbrev pub range_tests : ℕ → ℕ → ℕ → ℕ → List Bool
range_tests w first low next =
    leb first highest_first
    ∷ leb first low
    ∷ leb low next
    ∷ leb next past_highest
    ∷ leb next (low + w)
    ∷ []

unfoldable pub range_fits : ℕ → ℕ → ℕ → ℕ → Bool
range_fits w first low next = every (range_tests w first low next)

-- ".. or the timeout is outside opening's range"
abbrev pub timeout_tests : ℕ → List Bool
timeout_tests timeout = leb shortest_timeout timeout ∷ leb timeout longest_timeout ∷ []

unfoldable pub timeout_fits : ℕ → Bool
timeout_fits timeout = every (timeout_tests timeout)

-- "an unused place is not zero"
unfoldable pub zero_number : NumberPlace → Bool
zero_number p = every (eqb p.state 0 ∷ eqb p.channel.0 0 ∷ eqb p.tick 0 ∷ [])

unfoldable pub zero_block : BlockPlace → Bool
zero_block b = every (eqb b.state 0 ∷ eqb b.length 0 ∷ eqb b.sends 0 ∷ [])

-- "a pending number's block is not in range and in flight"; fly is whether the block at its channel number's place is in flight
abbrev pub pending_tests : NumberPlace → Bool → ℕ → ℕ → List Bool
pending_tests p fly channellow channelnext =
    leb channellow p.channel.0 ∷ ltb p.channel.0 channelnext ∷ fly ∷ []

-- "a received or lost place's channel number is below the first or not below channel next (it may be below channel low)"
abbrev pub done_tests : NumberPlace → ℕ → ℕ → List Bool
done_tests p firstchannel channelnext =
    number_passes p ∷ leb firstchannel p.channel.0 ∷ ltb p.channel.0 channelnext ∷ []

-- the place of number n: zero from next on, and below it pending, received or lost
unfoldable pub number_fits : NumberPlace → Bool → ℕ → ℕ → ℕ → ℕ → ℕ → Bool
number_fits p fly n next firstchannel channellow channelnext =
    cond (leb next n) (zero_number p)
    (cond (is_pending p) (every (pending_tests p fly channellow channelnext)) (every (done_tests p firstchannel channelnext)))

-- the i-th number from low on is pending and carries block c
unfoldable pub carries : ℕ → Sender → ℕ → ℕ → Bool
carries w s c i = every (is_pending (number_at w s (s.low.0 + i)) ∷ eqb (number_at w s (s.low.0 + i)).channel.0 c ∷ [])

-- "an in-flight block has other than one pending number"
unfoldable pub one_carrier : ℕ → Sender → ℕ → Bool
one_carrier w s c = eqb (count_below (carries w s c) w) 1

-- the place of a block below channel next: "a held length exceeds .. a sent one 1,223"; how often it was sent, "any but 1 to 6 is inconsistent" (document 02, W11); in flight
-- with one carrier, waiting or acknowledged
abbrev pub block_tests : BlockPlace → Bool → List Bool
block_tests b single =
    leb b.length longest_sent
    ∷ leb 1 b.sends
    ∷ leb b.sends most_sends
    ∷ cond (is_in_flight b) single (cond (is_waiting b) true (is_acknowledged b))
    ∷ []

-- the place of block c: zero from channel next on
unfoldable pub block_fits : BlockPlace → Bool → ℕ → ℕ → Bool
block_fits b single c channelnext =
    cond (leb channelnext c) (zero_block b) (every (block_tests b single))

unfoldable pub number_ok : ℕ → Sender → ℕ → Bool
number_ok w s i =
    number_fits (number_at w s (s.low.0 + i)) (is_in_flight (block_at w s (number_at w s (s.low.0 + i)).channel.0)) (s.low.0 + i) s.next.0
    s.firstchannel.0 s.channellow.0 s.channelnext.0

unfoldable pub block_ok : ℕ → Sender → ℕ → Bool
block_ok w s i =
    block_fits (block_at w s (s.channellow.0 + i)) (one_carrier w s (s.channellow.0 + i)) (s.channellow.0 + i) s.channelnext.0

-- "an unused place is not zero", for the places past the window
unfoldable pub spare_number : ℕ → Sender → ℕ → Bool
spare_number w s i = implies (leb w i) (zero_number (get_or s.numbers i no_number))

unfoldable pub spare_block : ℕ → Sender → ℕ → Bool
spare_block w s i = implies (leb w i) (zero_block (get_or s.blocks i no_block))

abbrev pub consistency_tests : ℕ → ℕ → Sender → List Bool
consistency_tests w cap s =
    -- the arrays have their places
    eqb (length s.numbers) cap
    ∷ eqb (length s.blocks) cap
    ∷ range_fits w s.firstdata.0 s.low.0 s.next.0
    ∷ range_fits w s.firstchannel.0 s.channellow.0 s.channelnext.0
    ∷ timeout_fits s.timeout
    -- "a low or base stands on a place it should have passed"
    ∷ not (number_passes (number_at w s s.low.0))
    ∷ not (is_acknowledged (block_at w s s.channellow.0))
    -- place by place
    ∷ all_below (number_ok w s) w
    ∷ all_below (block_ok w s) w
    ∷ all_below (spare_number w s) cap
    ∷ all_below (spare_block w s) cap
    ∷ []

unfoldable pub consistent_of : ℕ → ℕ → Sender → Bool
consistent_of w cap s = every (consistency_tests w cap s)

-- the record with its store
abbrev pub sound_of : ℕ → ℕ → Sender → ℕ → Bool
sound_of w cap s size = sound_with w (consistent_of w cap s) size
