pub mod Frame
pub mod Known
pub mod Maximum
pub mod Step
pub mod Window
pub mod Sent
pub mod Settles
