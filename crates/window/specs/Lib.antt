-- A window over numbers that slides up.
pub mod Window
pub mod Places
pub mod Store
pub mod Free
pub mod Sliding
pub mod Alike
pub mod Members
pub mod EachPlace
