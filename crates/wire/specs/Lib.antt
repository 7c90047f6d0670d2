-- One datagram, as documents 01 ("On the wire") and 000 (2.2.1, 3.1.1.1.5) lay it out: how it is framed, what its flags are, where its
-- payloads stand, what reading and writing answer; then the two round trips of demand 2, and last the laws that they stand on.
pub mod Frame
pub mod Flags
pub mod Layout
pub mod Read
pub mod Write
pub mod Same
pub mod WrittenReadsBack
pub mod ReadWrittenReadsTheSame
pub mod Round
