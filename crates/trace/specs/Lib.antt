-- A counter's morning as text (document 02, W1): reading it, writing it; then the laws.
pub mod Lines
pub mod Words
pub mod Numbers
pub mod Hex
pub mod Kinds
pub mod Read
pub mod Write
pub mod LinesLaws
pub mod WordsLaws
pub mod DataLaws
pub mod ReadsBackLaws
pub mod ReadsBack
pub mod ReadsBackByCalls
