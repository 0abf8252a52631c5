pub mod SameAnswers
pub mod SameLeft
pub mod Stored
