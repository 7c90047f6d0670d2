-- Laws that the functions' proofs cite, here and where a whole datagram is written.
pub mod Given
pub mod Widths
