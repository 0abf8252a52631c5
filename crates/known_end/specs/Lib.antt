pub mod Calls
pub mod Behind
