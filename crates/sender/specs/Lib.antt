-- The sender (document 01, "Sender"): its record, what makes one inconsistent, and what each call answers and leaves; then its theorems,
-- that every call leaves it consistent, that a sweep counts what it lost, and that the order of acknowledgements does not matter; last the
-- laws that the theorems and the calls' proofs cite.
pub mod Record
pub mod Fresh
pub mod Consistent
pub mod Turn
pub mod Acknowledge
pub mod Send
pub mod Sweep
pub mod DataReadsBack
pub mod Run
pub mod StaysConsistent
pub mod LostAreCounted
pub mod AnyOrder
pub mod Outset
pub mod PlaceTests
pub mod Facts
pub mod TurnedWants
pub mod Turned
pub mod Remembering
pub mod TurnedFacts
pub mod SentFacts
pub mod SendReady
pub mod States
pub mod Tells
pub mod Known
