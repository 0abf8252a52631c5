pub mod Turns
pub mod FilledLaws
