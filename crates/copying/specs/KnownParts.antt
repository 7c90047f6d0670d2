-- Copying by known bytes: document 01's datagrams, and the first place, room or length at which each refusal is given.
use Rattle.std.specs.Prelude.{ℕ, List, [], ◌∷◌, ◌≡◌, refl, replicate}
use Rattle.common.specs.Order.{first}
use Rattle.wire.specs.Frame.{swapped, dropped_by, end_of}
use Rattle.wire.specs.Layout.{part_of}
use Rattle.copying.specs.Copy.{copy_answer}

-- the listing's example: its block is 41 42, of which the first byte came as the datagram's first
abbrev listed : List ℕ
listed = 0x41 ∷ 0x04 ∷ 0x50 ∷ 0xe8 ∷ 0x03 ∷ 0x07 ∷ 0x00 ∷ 0x00 ∷ 0x42 ∷ []

pub block : (copy_answer listed 7 2 2 ≡ 0) × (part_of listed 7 2 ≡ 0x41 ∷ 0x42 ∷ [])
unfolding copy_answer first swapped dropped_by end_of part_of
block = (refl, refl)

pub whole : (copy_answer listed 0 9 9 ≡ 0)
    × (part_of listed 0 9 ≡ 0x00 ∷ 0x04 ∷ 0x50 ∷ 0xe8 ∷ 0x03 ∷ 0x07 ∷ 0x00 ∷ 0x41 ∷ 0x42 ∷ [])
unfolding copy_answer first swapped dropped_by end_of part_of
whole = (refl, refl)

-- one place too far; room for one byte less; both
pub refused : (copy_answer listed 8 2 2 ≡ 3) × (copy_answer listed 7 2 1 ≡ 14) × (copy_answer listed 8 2 1 ≡ 3)
unfolding copy_answer first swapped dropped_by end_of
refused = (refl, refl, refl)

-- P2, AckOfAcks 10 alone: the three bytes of padding are not the packet's
abbrev short : List ℕ
short = 0x00 ∷ 0x10 ∷ 0x50 ∷ 0x0a ∷ 0x00 ∷ 0x00 ∷ 0x00 ∷ 0x80 ∷ []

pub padding : (copy_answer short 3 2 2 ≡ 0) × (part_of short 3 2 ≡ 0x0a ∷ 0x00 ∷ []) × (copy_answer short 4 2 2 ≡ 3) × (copy_answer short 0 0 0 ≡ 0)
unfolding copy_answer first swapped dropped_by end_of part_of
padding = (refl, refl, refl, refl)

-- lengths 7 and 8, 1,232 and 1,233
pub lengths : (copy_answer (replicate 7 0) 1 0 0 ≡ 1) × (copy_answer (replicate 8 0) 7 1 1 ≡ 0) × (copy_answer (replicate 1232 0) 1231 1 1 ≡ 0)
    × (copy_answer (replicate 1233 0) 1231 1 1 ≡ 1)
unfolding copy_answer first swapped dropped_by end_of
lengths = (refl, refl, refl, refl)
