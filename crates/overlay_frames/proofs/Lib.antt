pub mod TwoThirds
