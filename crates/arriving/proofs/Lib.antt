-- Laws that the functions' proofs cite.
mod Applying
mod Receiving
