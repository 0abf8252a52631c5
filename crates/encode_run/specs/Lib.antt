pub mod Encoded
pub mod PatternLaws
pub mod PieceLaws
