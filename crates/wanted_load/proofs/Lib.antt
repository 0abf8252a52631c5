pub mod Loads
pub mod Answers
pub mod Search
pub mod RowLaws
