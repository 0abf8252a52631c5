pub mod Terms
pub mod Adding
pub mod AddingLaws
