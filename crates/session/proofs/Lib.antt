-- Laws that the functions on one session cite.
pub mod Making
