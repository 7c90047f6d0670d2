-- The worked examples of document 01, datagrams whose bytes the documents give, and vectors beside the rule's.

pub mod Cases
pub mod KnownBytes
pub mod Rivals
