pub mod BlockLaws
pub mod Blocks
pub mod PlaceLaws
pub mod FrameLaws
