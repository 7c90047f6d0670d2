-- What stands between two lines of a trace, what a line's step makes of it, and what it writes.
pub mod Steps
pub mod Takes
