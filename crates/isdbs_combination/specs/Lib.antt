pub mod Combinations
pub mod CombinationLaws
