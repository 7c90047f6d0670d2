-- What several crates' definitions and laws use.
pub mod Put
pub mod Laid
pub mod Order
pub mod Answer
pub mod Choice
pub mod Only
pub mod Every
pub mod EveryLaws
pub mod CountLaws
pub mod Facts
pub mod Parts
