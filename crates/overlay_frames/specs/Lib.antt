pub mod Kept
pub mod IsdbT
pub mod IsdbS
pub mod Places
pub mod Frames
