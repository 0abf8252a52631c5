pub mod Decoders
pub mod StoredLaws
