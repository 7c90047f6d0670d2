-- One endpoint (document 01): opening, receiving one datagram into both halves, and every call of either half; then its theorems, that a refusal changes nothing, that
-- every sequence of calls leaves it sound, that the peer's last LogWindowSize is remembered, that every block is accounted for and that the order of arrival does not
-- matter; last the laws that they stand on.

pub mod Open
pub mod Receive
pub mod Calls
pub mod Fresh
pub mod Sound
pub mod History
pub mod RefusedChangesNothing
pub mod StaysSound
pub mod RemembersTheLast
pub mod Accounts
pub mod EveryBlockAccounted
pub mod AnyOrderOfData
pub mod AnyOrderOfAcknowledgements
pub mod CanBeMet
pub mod ThirtyTwoCanBeMet
pub mod UsedOutset
pub mod UsedOutsetCanBeMet
pub mod AccountsCanBeMet
pub mod Refused
pub mod Steps
pub mod Brought
pub mod Follows
pub mod Keeps
pub mod Known
pub mod Accounting
