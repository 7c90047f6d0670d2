-- The laws that AnyOrder stands on.

pub mod Again
pub mod Stored
pub mod Moments
pub mod Runs
pub mod Settled
