-- Laws that the functions' proofs cite.
mod Places
mod Refusals
