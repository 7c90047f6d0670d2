-- Laws that the functions' proofs cite.
mod AllLines
mod Ending
