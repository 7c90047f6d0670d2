-- Laws that the functions' proofs cite, here and where a write is judged.
pub mod Sizes
