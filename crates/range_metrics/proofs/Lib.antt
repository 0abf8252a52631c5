pub mod Elements
pub mod Accepted
pub mod NumberLaws
