pub mod Blocks
pub mod Spread
pub mod Places
