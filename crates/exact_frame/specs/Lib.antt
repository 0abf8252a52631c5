pub mod Frames
pub mod Call
