-- What is told of a datagram that was read.
pub mod Told
