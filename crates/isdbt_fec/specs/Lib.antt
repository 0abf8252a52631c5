pub mod Calls
pub mod KeptLaws
pub mod EncodeLaws
