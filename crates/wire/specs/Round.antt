-- The laws that the two round trips stand on.

pub mod Tests
pub mod Framing
pub mod Stands
pub mod Payloads
pub mod Chain
pub mod ReadsBack
pub mod Accepted
pub mod Spelled
pub mod Respelled
pub mod Found
pub mod Rewritten
