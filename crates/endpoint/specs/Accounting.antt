-- The laws that EveryBlockAccounted stands on.

pub mod Entries
pub mod Books
pub mod EachCall
pub mod Throughout
pub mod Moments
