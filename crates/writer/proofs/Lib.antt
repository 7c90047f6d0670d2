-- Laws that the functions' proofs cite.
mod Judging
mod Framing
