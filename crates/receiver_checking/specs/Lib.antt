-- What only the contracts of the check ask for.
pub mod Checking
