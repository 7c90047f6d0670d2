-- The replay of a counter's morning (document 02, W1): what it is, the same line by line, the theorems, and the laws.
pub mod Replay
pub mod LineLaws
pub mod LineByLine
pub mod RecordedReplays
pub mod Cases
