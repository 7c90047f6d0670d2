-- Laws that the functions' proofs cite.
mod Vectors
mod Acknowledging
