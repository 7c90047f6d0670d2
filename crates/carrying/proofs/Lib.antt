-- Laws that the calls' proofs cite.
pub mod Told
