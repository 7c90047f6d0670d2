-- The values of a listing's lines.
pub mod Fields
