pub mod FloatOrder
pub mod Peaks
