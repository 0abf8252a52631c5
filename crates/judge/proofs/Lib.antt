pub mod Rows
pub mod Frames
pub mod Calls
pub mod JudgedLaws
