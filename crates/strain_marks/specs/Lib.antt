pub mod Counts
pub mod CountsLaws
pub mod Marks
pub mod Slots
pub mod Strain
