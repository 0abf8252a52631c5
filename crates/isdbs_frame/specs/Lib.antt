pub mod Answers
pub mod Frame
pub mod PlaceLaws
