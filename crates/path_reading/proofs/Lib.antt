pub mod Parts
pub mod Accepts
pub mod Compose
