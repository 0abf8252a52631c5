pub mod Answers
pub mod HistoryLaws
