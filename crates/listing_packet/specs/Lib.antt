-- The lines of a packet, and their parts as one function after the other writes them.
pub mod Lines
pub mod Parts
