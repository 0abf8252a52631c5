pub mod Stretches
pub mod Distances
