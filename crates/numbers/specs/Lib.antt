-- The two kinds of number, and the age of a tick (document 01, "Two kinds of number" and "Sender").
pub mod Full
pub mod Widen
pub mod Nearest
pub mod Age
