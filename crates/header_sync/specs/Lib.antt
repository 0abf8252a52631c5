pub mod Signs
pub mod Fits
pub mod Search
pub mod SearchLaws
