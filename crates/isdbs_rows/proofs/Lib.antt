pub mod EncodeAnswers
pub mod Rows
