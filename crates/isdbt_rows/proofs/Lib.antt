pub mod Refusals
pub mod RowLaws
