pub mod Reading
pub mod FrameSteps
pub mod Steps
pub mod StepLaws
pub mod Scales
pub mod ScaleLaws
pub mod FrameRunLaws
pub mod DigitLaws
