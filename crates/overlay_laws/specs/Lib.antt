pub mod Overlaid
pub mod OverlaidLaws
pub mod Coding
