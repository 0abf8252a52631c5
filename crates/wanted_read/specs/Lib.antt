pub mod Wanted
pub mod ReadOff
pub mod Shown
pub mod Inputs
pub mod Only
pub mod Pieces
