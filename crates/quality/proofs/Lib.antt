pub mod Running
pub mod Blocks
pub mod Rows
