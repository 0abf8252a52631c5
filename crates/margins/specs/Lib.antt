pub mod Margins
pub mod Fractions
pub mod Intervals
pub mod Metrics
