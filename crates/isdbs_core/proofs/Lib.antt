pub mod Bytes
pub mod Pairs
