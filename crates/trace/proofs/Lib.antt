-- Laws of a trace's definitions, which the proofs of the functions that read and write one cite.
pub mod Words
pub mod Numbers
pub mod Due
pub mod Decoded
pub mod Texts
