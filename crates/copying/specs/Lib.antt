-- A part of a datagram, copied out: what the call answers, and that each part of a packet that was read can be had.
pub mod Copy
pub mod PartsOfWhatWasRead
pub mod KnownParts
