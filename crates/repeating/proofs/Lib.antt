-- What the loops' proofs share.
pub mod Going
pub mod Stepped
