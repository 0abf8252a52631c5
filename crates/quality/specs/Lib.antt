pub mod Qualities
pub mod Rows
