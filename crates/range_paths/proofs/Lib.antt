pub mod Known
pub mod Maximum
pub mod Run
pub mod Starts
pub mod Invariant
