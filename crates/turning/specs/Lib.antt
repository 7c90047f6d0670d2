-- What the contracts of this crate cite.
pub mod Chosen
pub mod Turnable
