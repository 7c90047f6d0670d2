-- Laws that the functions' proofs cite.
mod Readings
mod Answers
