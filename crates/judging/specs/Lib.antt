-- What the contracts of this crate cite.
pub mod Judge
pub mod Judged
