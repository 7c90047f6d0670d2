-- One session (document 02, W12): its place and the refusals before all others, what a call makes of it, opening; and the list of forty.

pub mod Place
pub mod Call
pub mod Open
pub mod List
pub mod Lowest
pub mod Shapes
pub mod Known
