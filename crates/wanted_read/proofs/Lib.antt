pub mod Steps
pub mod Bits
pub mod Frames
