-- Laws that the functions' proofs cite.
mod Opening
