pub mod Readings
pub mod BestLaws
