pub mod Answers
pub mod Symbols
pub mod SymbolLaws
pub mod MarkLaws
