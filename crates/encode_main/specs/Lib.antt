pub mod Laid
pub mod Encoding
pub mod RunLaws
pub mod TableLaws
