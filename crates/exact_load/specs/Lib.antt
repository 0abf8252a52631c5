pub mod Bits
pub mod Steps
pub mod Exact
pub mod StrainLaws
pub mod Unread
pub mod Load
