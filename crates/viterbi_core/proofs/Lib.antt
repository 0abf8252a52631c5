pub mod Ends
pub mod Turn
