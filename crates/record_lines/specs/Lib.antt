-- The lines of a replay (document 02, W1): the answers, and the full record at the end.
pub mod AnswerLine
pub mod Record
