pub mod EncodingLaws
