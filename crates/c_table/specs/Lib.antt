pub mod Forms
pub mod Rows
