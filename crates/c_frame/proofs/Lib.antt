pub mod Frames
pub mod FullFrames
