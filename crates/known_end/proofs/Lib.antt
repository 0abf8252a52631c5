pub mod Rows
pub mod Compose
