-- Laws that the functions' proofs cite.
mod Walking
mod Naming
mod Acked
mod Told
