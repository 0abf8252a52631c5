pub mod Values
pub mod Rows
pub mod Calls
pub mod AnswerLaws
