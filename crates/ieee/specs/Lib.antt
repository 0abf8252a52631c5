pub mod Nearest
pub mod Value
pub mod Order
pub mod Rounding
pub mod Whole
pub mod Conversion
pub mod Within
