pub mod DecodeRows
pub mod EncodeRows
pub mod ScaleLaws
