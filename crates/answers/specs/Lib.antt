-- What each call answers has the papers' number, accepted or refused.
pub mod Numbered
