pub mod Compare
pub mod Frames
