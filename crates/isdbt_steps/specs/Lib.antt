pub mod Soft
pub mod SoftLaws
