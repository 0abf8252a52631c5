pub mod Windows
pub mod WindowLaws
pub mod Bits
