pub mod Outcome
pub mod After
pub mod WindowLaws
