pub mod Lengths
pub mod LengthLaws
pub mod Windows
