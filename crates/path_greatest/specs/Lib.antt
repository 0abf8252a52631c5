pub mod Paths
pub mod Viterbi
pub mod Starts
pub mod Hard
pub mod Fresh
