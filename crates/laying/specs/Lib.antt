-- The parts of a packet, as they are laid.
pub mod Halves
