pub mod Absolute
pub mod Clean
pub mod Correlation
pub mod Pairs
pub mod Speaks
pub mod Tc8psk
pub mod Intervals
