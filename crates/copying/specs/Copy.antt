-- Copying a part of a datagram out. A part is n bytes from a place on; places count in the datagram with its first and eighth bytes exchanged,
-- as reading gives them: wire/specs/Layout's part_of. Order: 1, 3, 14.
use Rattle.std.specs.Prelude.{ℕ, ◌+◌, List, [], ◌∷◌, length, ltb}
use Rattle.common.specs.Order.{Test, test, first}
use Rattle.wire.specs.Flags.{either}
use Rattle.wire.specs.Frame.{swapped, end_of}

-- "1: datagram shorter than 8 or longer than 1,232 bytes." "3: .. runs past the packet's end": the part does, as for a payload that is read.
-- "14: output buffer too short for this answer". Nothing else is refused, so the prefix, at place 0, can be copied too.
abbrev pub copy_tests : List ℕ → ℕ → ℕ → ℕ → List Test
copy_tests d from n room =
    test (either (ltb (length d) 8) (ltb 1232 (length d))) 1
    ∷ test (ltb (end_of (swapped d)) (from + n)) 3
    ∷ test (ltb room n) 14
    ∷ []

unfoldable pub copy_answer : List ℕ → ℕ → ℕ → ℕ → ℕ
copy_answer d from n room = first (copy_tests d from n room)
