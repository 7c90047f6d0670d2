-- The lines of events' answers.
pub mod Answers
