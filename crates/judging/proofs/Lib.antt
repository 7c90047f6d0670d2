-- Laws that the functions' proofs cite, and what the judgement tells where it is applied.
mod Fields
mod Judging
pub mod Told
