-- Laws that the functions' proofs cite.
mod Ways
mod Front
