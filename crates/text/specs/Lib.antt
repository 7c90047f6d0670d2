-- Texts and numbers as bytes.
pub mod Ascii
pub mod Decimal
pub mod Lines
pub mod Laws
pub mod Within
pub mod Cases
