-- The laws that StaysConsistent stands on.

pub mod Marks
pub mod Holds
pub mod Accepted
pub mod After
pub mod Brought
pub mod Calls
