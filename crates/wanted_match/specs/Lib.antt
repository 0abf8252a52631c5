pub mod Alike
pub mod NumberLaws
