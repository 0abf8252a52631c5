pub mod Fill
pub mod Bits
pub mod ShortRounding
pub mod Range
pub mod Widened
