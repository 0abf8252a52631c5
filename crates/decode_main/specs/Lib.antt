pub mod DecodedLaws
pub mod Runs
pub mod Final
