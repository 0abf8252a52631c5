pub mod Runs
pub mod Counting
pub mod CertainLaws
pub mod GivenLaws
pub mod OutsideLaws
