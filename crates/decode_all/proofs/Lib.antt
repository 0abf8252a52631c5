pub mod FrameMarks
pub mod FrameSteps
