pub mod DecodeRows
pub mod EncodeRows
