pub mod Carried
pub mod BlockLaws
