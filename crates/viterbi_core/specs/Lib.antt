pub mod PartLaws
pub mod Calls
pub mod TracedLaws
pub mod StepLaws
pub mod CountLaws
pub mod HoldingLaws
pub mod RunLaws
pub mod BlockLaws
