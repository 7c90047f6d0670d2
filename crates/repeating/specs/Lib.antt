-- What repeated calls give: the calls' own definitions, one call after another.
pub mod Calls
pub mod Steps
