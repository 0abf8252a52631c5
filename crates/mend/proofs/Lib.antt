pub mod Outcome
pub mod Positions
pub mod Promises
