pub mod Bytes
pub mod FrameByteLaws
pub mod PackingLaws
pub mod PartLaws
pub mod SixLaws
