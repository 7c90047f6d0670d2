-- How a datagram is written, step by step; what it is, wire/specs/Write says.
pub mod Steps
