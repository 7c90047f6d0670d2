-- The listing of one datagram (document 01, "The listing").
pub mod Lines
pub mod Laws
pub mod Cases
