pub mod Answers
pub mod Closed
pub mod TwoCalls
pub mod Numbers
