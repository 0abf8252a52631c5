pub mod EncodedLaws
pub mod LinearLaws
pub mod RunLaws
pub mod Taps
pub mod DistanceLaws
pub mod Parity
