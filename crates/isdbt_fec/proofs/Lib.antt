pub mod Turns
pub mod Periods
pub mod Decoding
pub mod Decode
