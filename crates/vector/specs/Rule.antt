-- The rule by which a vector is written (document 01, "Write acknowledgement"): "at each place, if the run of equal states there
-- (at most 63, within the range) exceeds 7, a run byte; else a seven-bit map, states past the range 0."
use Rattle.std.specs.Prelude.{ℕ, zero, suc, ◌+◌, ◌*◌, min, Bool, cond, not, List, [], ◌∷◌, length, take, drop, ltb}
use Rattle.common.specs.Answer.{room_answer}

abbrev pub one : Bool → ℕ
one s = cond s 1 0

-- how many states at the front are s
unfoldable pub alike : Bool → List Bool → ℕ
alike s [] = 0
alike s (t ∷ ts) = cond (cond s t (not t)) (suc (alike s ts)) 0

-- the run that starts with the state s, within the range that goes on with ss
unfoldable pub run_of : Bool → List Bool → ℕ
run_of s ss = min 63 (suc (alike s ss))

-- a map of at most seven states, the first in bit 0
unfoldable pub map_of : List Bool → ℕ
map_of [] = 0
map_of (s ∷ ss) = one s + 2 * map_of ss

-- the byte for a range that starts with the state s and goes on with ss, and how many numbers it covers
unfoldable pub byte_of : Bool → List Bool → ℕ
byte_of s ss = cond (ltb 7 (run_of s ss)) (128 + 64 * one s + run_of s ss) (map_of (take 7 (s ∷ ss)))

unfoldable pub covers_of : Bool → List Bool → ℕ
covers_of s ss = cond (ltb 7 (run_of s ss)) (run_of s ss) 7

-- byte after byte, at most k of them
unfoldable pub bytes_by : ℕ → List Bool → List ℕ
bytes_by zero ss = []
bytes_by (suc k) [] = []
bytes_by (suc k) (s ∷ ss) = byte_of s ss ∷ bytes_by k (drop (covers_of s ss) (s ∷ ss))

-- the vector for a range of states: each byte covers at least one, so as many bytes as states always suffice
unfoldable pub vector_of : List Bool → List ℕ
vector_of ss = bytes_by (length ss) ss

-- 14 exactly if the output buffer is too short
unfoldable pub answer_of : List Bool → ℕ → ℕ
answer_of ss room = room_answer (vector_of ss) room
