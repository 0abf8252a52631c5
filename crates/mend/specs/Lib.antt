pub mod Rows
pub mod Calls
pub mod Allowed
pub mod Tail
pub mod Listed
