-- The receiver (document 01, "Receiver"): its record, what makes one inconsistent, and what each call answers and leaves; then its
-- theorems, that what it writes reads back and no vector is shorter, that every call leaves it consistent and that the order of arrival does
-- not matter; last the laws that the theorems and the calls' proofs cite.
pub mod Record
pub mod Fresh
pub mod Consistent
pub mod Packet
pub mod Take
pub mod Receive
pub mod Acknowledge
pub mod AcknowledgementReadsBack
pub mod WrittenVectorIsShortest
pub mod Determined
pub mod History
pub mod Set
pub mod StaysConsistent
pub mod AnyOrder
pub mod CanBeMet
pub mod AcknowledgeLaws
pub mod Facts
pub mod Blocks
pub mod Keeping
pub mod Shown
pub mod Known
pub mod Order
