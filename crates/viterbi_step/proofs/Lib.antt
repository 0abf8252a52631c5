pub mod Turn
pub mod Known
